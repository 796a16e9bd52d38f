-- How what calls add to a trail adds up.
use Rattle.std.proofs.Common.{◌≡◌, inl, inr, ℕ, List, [], ◌∷◌, ◌++◌, refl, sym, ◌∙◌, ap, subst, append_assoc}
use Rattle.std.proofs.lemmas.List.{append-nil}
use Rattle.cube_model.specs.Cubes.{Each, IsIn}
use Rattle.cube_io.specs.States.{State, Log, IsInCut, IsInSync, Gained, Passed, Cut, Synced, last_of}

pub each_append : {A : Type 0} (P : A → Type 0) (xs ys : List A) → Each P xs → Each P ys → Each P (xs ++ ys)
each_append P [] ys hx hy = hy
each_append P (x ∷ xs) ys hx hy = (hx.0, each_append P xs ys hx.1 hy)

pub each_map : {A : Type 0} (P Q : A → Type 0) (xs : List A) → ((x : A) → P x → Q x) → Each P xs → Each Q xs
each_map P Q [] f h = tt
each_map P Q (x ∷ xs) f h = (f x h.0, each_map P Q xs f h.1)

-- what holds of each holds of one of them
pub each_in : {A : Type 0} (P : A → Type 0) (xs : List A) (x : A) → Each P xs → IsIn x xs → P x
each_in P [] x h i = absurd i
each_in P (y ∷ ys) x h (inl e) = subst P e h.0
each_in P (y ∷ ys) x h (inr i) = each_in P ys x h.1 i

-- each is among them
pub each_self : {A : Type 0} (P : A → Type 0) (xs : List A) → ((x : A) → IsIn x xs → P x) → Each P xs
each_self P [] f = tt
each_self P (x ∷ xs) f = (f x (inl refl), each_self P xs (λ y i. f y (inr i)))

pub each_last : (P : State → Type 0) (s : State) (ts : List State) → P s → Each P ts → P (last_of s ts)
each_last P s [] here h = here
each_last P s (t ∷ ts) here h = each_last P t ts h.0 h.1

pub gained_none : (P : State → Type 0) (a b : Log) → b ≡ a → Gained P a b
gained_none P a b e = record { states = []; trail = ap (λ (l : Log). l.trail) e ∙ sym (append-nil a.trail); each = tt }

pub gained_then : (P : State → Type 0) (a b c : Log) → Gained P a b → Gained P b c → Gained P a c
gained_then P a b c f g = record {
  states = f.states ++ g.states;
  trail = g.trail ∙ ap (λ (l : List State). l ++ g.states) f.trail ∙ append_assoc a.trail f.states g.states;
  each = each_append P f.states g.states f.each g.each;
}

pub gained_map : (P Q : State → Type 0) (a b : Log) → ((s : State) → P s → Q s) → Gained P a b → Gained Q a b
gained_map P Q a b f g = record { states = g.states; trail = g.trail; each = each_map P Q g.states f g.each }

pub passed_gained : (P : State → Type 0) (a b : Log) (states : List State) → Passed a b states → Each P states → Gained P a b
passed_gained P a b states passed each = record { states = states; trail = passed.trail; each = each }

pub passed_last : (P : State → Type 0) (a b : Log) (states : List State) → Passed a b states → P a.state → Each P states → P b.state
passed_last P a b states passed here each = subst P (sym passed.state) (each_last P a.state states here each)

pub cut_gained : (P : State → Type 0) (len : ℕ) (a b : Log) → Cut len a b → ((s : State) → IsInCut a.state len s → P s) → Gained P a b
cut_gained P len a b cut f = passed_gained P a b cut.states cut.passed (each_map (IsInCut a.state len) P cut.states f cut.each)

pub cut_last : (P : State → Type 0) (len : ℕ) (a b : Log) → Cut len a b → ((s : State) → IsInCut a.state len s → P s) → P b.state
cut_last P len a b cut f = passed_last P a b cut.states cut.passed (f a.state (inl refl)) (each_map (IsInCut a.state len) P cut.states f cut.each)

pub sync_gained : (P : State → Type 0) (a b : Log) → Synced a b → ((s : State) → IsInSync a.state s → P s) → Gained P a b
sync_gained P a b sync f = passed_gained P a b sync.states sync.passed (each_map (IsInSync a.state) P sync.states f sync.each)

pub sync_last : (P : State → Type 0) (a b : Log) → Synced a b → ((s : State) → IsInSync a.state s → P s) → P b.state
sync_last P a b sync f = passed_last P a b sync.states sync.passed (f a.state (inl refl)) (each_map (IsInSync a.state) P sync.states f sync.each)
