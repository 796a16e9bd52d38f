-- What a crash leaves of a log beyond what it could leave before.
use Rattle.std.proofs.Common.{◌≡◌, inl, inr, ⊎_elim, subst, List, ℕ}
use Rattle.cube_io.specs.Desks.{LeavesOf, LeavesAll}
use Rattle.cube_io.specs.States.{State, Log, IsImage}
use Rattle.cube_io.proofs.Trails.{gained_none, gained_then, gained_map}

-- what is given back is told in other words
leaves_map : {X Y : Type 0} (gives : X → List ℕ → Type 0) (tells : Y → List ℕ → Type 0) (these : X → Type 0) (those : Y → Type 0) (old s : State)
    → ((x : X) (bytes : List ℕ) → these x → gives x bytes → (y : Y) × those y × tells y bytes) → LeavesOf gives these old s → LeavesOf tells those old s
leaves_map gives tells these those old s f l bytes image = ⊎_elim (λ before. inl before) (λ x. inr (f x.0 bytes x.1 x.2)) (l bytes image)

pub leaves_all_map : {X Y : Type 0} (gives : X → List ℕ → Type 0) (tells : Y → List ℕ → Type 0) (these : X → Type 0) (those : Y → Type 0) (old new : Log)
    → ((x : X) (bytes : List ℕ) → these x → gives x bytes → (y : Y) × those y × tells y bytes) → LeavesAll gives these old new → LeavesAll tells those old new
leaves_all_map gives tells these those old new f l = record {
  passed = gained_map (LeavesOf gives these old.state) (LeavesOf tells those old.state) old new (λ s a. leaves_map gives tells these those old.state s f a) l.passed;
  last = leaves_map gives tells these those old.state new.state f l.last;
}

-- a log that is as it was
pub leaves_all_none : {X : Type 0} (gives : X → List ℕ → Type 0) (these : X → Type 0) (old new : Log) → new ≡ old → LeavesAll gives these old new
leaves_all_none gives these old new same = record {
  passed = gained_none (LeavesOf gives these old.state) old new same;
  last = λ bytes image. inl (subst (λ (l : Log). IsImage l.state bytes) same image);
}

-- one call, and then another
pub leaves_all_then : {X : Type 0} (gives : X → List ℕ → Type 0) (these : X → Type 0) (old mid new : Log) → LeavesAll gives these old mid → LeavesAll gives these mid new → LeavesAll gives these old new
leaves_all_then {X} gives these old mid new first second = record {
  passed = gained_then (LeavesOf gives these old.state) old mid new first.passed (gained_map (LeavesOf gives these mid.state) (LeavesOf gives these old.state) mid new (λ s l. onward s l) second.passed);
  last = onward new.state second.last;
}
  where
    onward : (s : State) → LeavesOf gives these mid.state s → LeavesOf gives these old.state s
    onward s l bytes image = ⊎_elim (λ before. first.last bytes before) (λ x. inr x) (l bytes image)
