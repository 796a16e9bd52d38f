-- Groups that were opened, and served a wire or nothing.
use Rattle.std.proofs.Common.{◌≡◌, ◌∙◌, ◌<◌, ◌≤◌, ◌+◌, ◌*◌, refl, sym, ap, subst, arith, ℕ, suc, Bool, List, [], ◌∷◌, ◌++◌, length, map, IsTrue}
use Rattle.std.specs.Prelude.{Result}
use Rattle.std.proofs.lemmas.List.{length-map}
use Rattle.cube_model.specs.Cores.{Core}
use Rattle.cube_model.specs.Cubes.{Each}
use Rattle.cube_groups.specs.declared.group.GroupFile.{GroupFile}
use Rattle.cube_io.specs.Causes.{RoseBy}
use Rattle.cube_io.specs.Desks.{faults_in}
use Rattle.cube_io.specs.Seen.{FolderState, StoreState, Seen, seen}
use Rattle.cube_io.specs.Wires.{LogEntry}
use Rattle.cube_server.specs.declared.serving.ServeFault.{ServeFault}
use Rattle.cube_model.specs.declared.outcome.Outcome.{Outcome}
use Rattle.cube_engine.specs.Kept.{IsExact}
use Rattle.cube_engine.specs.Worlds.{IsRuled}
use Rattle.cube_opening.specs.Opening.{GotBehind}
use Rattle.cube_opening.specs.Ruling.{MakeGroups, ruled_names}
use Rattle.cube_opening.specs.declared.cube_files.RuledFiles.{RuledFiles}
use Rattle.cube_opening.specs.declared.ruling.RuledGroup.{RuledGroup}
use Rattle.cube_starting.specs.Grouping.{GroupRun, AllOf, AllRecover, AreHeld, AreStarted, OnlyFirst, OnlyFrom, OpensFew, ruled_by, AreRunsOf}
use Rattle.cube_starting.specs.NamedBooks.{Groups}
use Rattle.cube_serving.specs.Serving.{IsInTurn, HoldFrom, ServeWire, Served, Unserved, Wired}
use Rattle.cube_starting.specs.Starting.{RecoversIn, SurvivedIn, HeldIn}
use Rattle.cube_starting.specs.declared.named.NamedBook.{NamedBook}
use Rattle.cube_starting.proofs.OpenGroups.{runs_at, still_runs, runs_exact, runs_ruled, are_open, run_recovers, only_most, seals_alone}

all_unmap : {X Y : Type 0} (P : ℕ → Y → Type 0) (f : X → Y) (k : ℕ) (xs : List X) → AllOf P k (map f xs) → AllOf (λ n x. P n (f x)) k xs
all_unmap P f k [] a = tt
all_unmap P f k (x ∷ xs) a = (a.0, all_unmap P f (suc k) xs a.1)

all_three : {X : Type 0} (P Q R : ℕ → X → Type 0) (k : ℕ) (xs : List X) → AllOf (λ n x. P n x → Q n x → R n x) k xs → AllOf P k xs → AllOf Q k xs → AllOf R k xs
all_three P Q R k [] f a b = tt
all_three P Q R k (x ∷ xs) f a b = (f.0 a.0 b.0, all_three P Q R (suc k) xs f.1 a.1 b.1)

module _ {F S : Type 0} (cube : RuledFiles) (more : List (List ℕ)) (files : Seen FolderState F) (fs : List GroupFile) (core : Core) (gs : List RuledGroup) (tells : S → StoreState) (old mid : S) (bs : List NamedBook)
    (make : MakeGroups cube files.before core fs gs) (behind : GotBehind (ruled_names cube fs ++ more) files) (started : AreStarted core (seen tells old mid) 0 gs bs)
    (over : Each (λ b. b.book.core ≡ core) bs) (rules : Each (λ b. IsRuled b.book) bs)
    (few : length gs ≤ 16) (held : AreHeld core gs (seen tells old mid)) (opens : OpensFew (length gs) (seen tells old mid)) where
  -- there are as many of them
  as_many : (rs : List GroupRun) → AreRunsOf bs rs → length gs ≡ length rs
  as_many rs runs = ap (λ (xs : List RuledGroup). length xs) (sym (runs_ruled core (seen tells old mid) 0 gs bs rs started runs)) ∙ length-map rs ruled_by

  -- nothing was asked
  pub unserved : AllRecover core 0 gs (seen tells old mid) → Unserved cube more files (seen tells old mid)
  unserved passed = record {
    core = core;
    groups = runs_at bs;
    opened = are_open cube more files fs core gs tells old mid bs make behind started over rules few held mid (runs_at bs) (still_runs bs) (λ told j low. refl);
    passed = run_recovers cube more files fs core gs tells old mid bs make behind started over rules few held (runs_at bs) (still_runs bs) passed;
    exact = λ told. runs_exact core (seen tells old mid) 0 gs bs (runs_at bs) started (still_runs bs) told;
    others = subst (λ (n : ℕ). OnlyFirst n (tells old) (tells mid)) (as_many (runs_at bs) (still_runs bs)) opens.others;
  }

  -- a wire was served
  pub served : (new : S) (e last : Groups) (end : Result (Unit {0}) ServeFault) (told heard_told : Bool) (log : List LogEntry) → bs ≡ e.books → heard_told ≡ told → OnlyFrom 0 (length bs) (tells mid) (tells new) → (tells mid).faults ≡ (tells old).faults
      → AllRecover core 0 gs (seen tells old mid) → (w : ServeWire tells core e last end heard_told log mid new) → RoseBy (faults_in last.outcomes) (tells mid).faults (tells new).faults → Served cube more files (seen tells old new) w.asking end told log
  served new e last end told heard_told log is same_heard frame steady passed w failed =
      let told_same : (tells mid).told ≡ (tells old).told = opens.told in
      let stays = seals_alone core tells old mid new gs bs few started told_same frame in
      let runs : AreRunsOf bs w.asking.groups = subst (λ (xs : List NamedBook). AreRunsOf xs w.asking.groups) (sym is) w.runs in
      let both : (v : Wired core w.asking end told log) × HoldFrom tells core w.asking.groups v.calls mid new =
      subst (λ (b : Bool). (v : Wired core w.asking end b log) × HoldFrom tells core w.asking.groups v.calls mid new) same_heard (w.wired, w.held) in
      record {
        core = core;
        opened = are_open cube more files fs core gs tells old mid bs make behind started over rules few held new w.asking.groups runs stays;
        wired = both.0;
        kept = record {
          survived = λ are. all_three (λ k (g : GroupRun). IsExact core g.policy g.first ((tells mid).logs k).state) (λ k (g : GroupRun). RecoversIn k core g.policy (seen tells old mid)) (λ k (g : GroupRun). SurvivedIn k core g.policy g.first g.last w.asking.outcomes (seen tells old new)) 0 w.asking.groups
              (w.survived (subst IsTrue (sym told_same) are) old (sym told_same))
              (runs_exact core (seen tells old mid) 0 gs bs w.asking.groups started runs are)
              (all_unmap (λ k (g : RuledGroup). RecoversIn k core g.policy (seen tells old mid)) ruled_by 0 w.asking.groups (run_recovers cube more files fs core gs tells old mid bs make behind started over rules few held w.asking.groups runs passed));
          held = λ are. all_three (λ k (g : GroupRun). IsExact core g.policy g.first ((tells mid).logs k).state) (λ k (g : GroupRun). RecoversIn k core g.policy (seen tells old mid)) (λ k (g : GroupRun). HeldIn k core g.policy (IsInTurn core w.asking.groups both.0.calls k) (seen tells old new)) 0 w.asking.groups
              (both.1 (subst IsTrue (sym told_same) are) old (sym told_same))
              (runs_exact core (seen tells old mid) 0 gs bs w.asking.groups started runs are)
              (all_unmap (λ k (g : RuledGroup). RecoversIn k core g.policy (seen tells old mid)) ruled_by 0 w.asking.groups (run_recovers cube more files fs core gs tells old mid bs make behind started over rules few held w.asking.groups runs passed));
          failed = subst (λ (n : ℕ). RoseBy (faults_in w.asking.outcomes) n (tells new).faults) steady (subst (λ (os : List Outcome). RoseBy (faults_in os) (tells mid).faults (tells new).faults) (sym w.outcomes) failed);
          few = λ are. let first = opens.calls are in let then = w.few (subst IsTrue (sym told_same) are) in let long = as_many w.asking.groups runs in omega (arith, first, then, long);
        };
        others = subst (λ (n : ℕ). OnlyFirst n (tells old) (tells new)) (as_many w.asking.groups runs)
            (only_most core tells old mid new gs bs few started told_same (length gs) (omega arith) opens.others frame);
      }
