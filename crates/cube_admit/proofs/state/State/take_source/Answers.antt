use Rattle.std.proofs.Common.{◌<◌, Bool, List, [], ◌∷◌, ◌++◌, ℕ, length, sym, ap, ◌∙◌, subst, arith, get_or, set, cond, Some}
use Rattle.cube_model.specs.declared.entry.Entry.{Entry}
use Rattle.cube_model.specs.declared.entry.Entry.TheVariants.{Source as SourceOf}
use Rattle.cube_model.specs.declared.entry.Taken.TheVariants.{Taken, Refused}
use Rattle.cube_model.specs.Cores.{shown}
use Rattle.cube_admit.specs.Sources.{IsLong}
use Rattle.cube_admit.specs.Needs.{CanEnd}
use Rattle.cube_admit.specs.States.{source_in, IsTableOf}
use Rattle.cube_admit.specs.declared.held.Held.{Held}
use Rattle.cube_admit.specs.declared.held.Held.TheVariants as held
use Rattle.cube_admit.specs.declared.held.Next.TheVariants.{Source}
use Rattle.cube_admit.proofs.Taking.{source_allowed, source_there, source_long, source_ends, source_stays, source_narrows, source_stands}
use Rattle.cube_admit.proofs.state.State.take_source.Goals as goal

pub step_with-requires-clause-measure : goal.step_with-requires-clause-measure
step_with-requires-clause-measure c = source_there (shown c.args.core.now c.args.policy.now) c.args.self.now c.args.measure c.args.levels.now c.requires.stands c.requires.allowed

pub step_with-requires-clause-long : goal.step_with-requires-clause-long
step_with-requires-clause-long c =
    let kept = get_or c.args.self.now.held c.args.measure held.Open in
    subst (λ (l : List ℕ). IsLong (length l) (source_in kept)) (sym c.in_ok-asked.ensures) (source_long (shown c.args.core.now c.args.policy.now) c.args.self.now c.args.measure c.args.levels.now c.requires.stands c.requires.none c.requires.allowed)

pub returns-in-Stays-clause-taken : goal.returns-in-Stays-clause-taken
returns-in-Stays-clause-taken c = source_stays (shown c.args.core.now c.args.policy.now) c.args.self.now c.args.measure c.args.levels.now c.in_ok-asked.asked c.requires.stands c.requires.none c.requires.allowed c.in_ok-asked.ensures (sym c.in-Stays.is ∙ c.step_with.ensures)

pub is_safe-requires-clause-measure : goal.is_safe-requires-clause-measure
is_safe-requires-clause-measure c =
    let there = (source_allowed (shown c.args.core.now c.args.policy.now) c.args.measure c.args.levels.now c.requires.allowed).there in
    let even = c.requires.policy.methods in
    omega (arith, there, even)

pub is_safe-requires-clause-levels : goal.is_safe-requires-clause-levels
is_safe-requires-clause-levels c = (source_narrows (shown c.args.core.now c.args.policy.now) c.args.self.now c.args.measure c.args.levels.now c.in_ok-asked.asked c.in-Would.narrower c.requires.stands c.requires.none c.requires.allowed c.in_ok-asked.ensures (sym c.in-Would.is ∙ c.step_with.ensures)).levels

pub returns-then-not-branch-clause-taken : goal.returns-then-not-branch-clause-taken
returns-then-not-branch-clause-taken c =
    let narrows = source_narrows (shown c.args.core.now c.args.policy.now) c.args.self.now c.args.measure c.args.levels.now c.in_ok-asked.asked c.in-Would.narrower c.requires.stands c.requires.none c.requires.allowed c.in_ok-asked.ensures (sym c.in-Would.is ∙ c.step_with.ensures) in
    sym (narrows.becomes ∙ ap (λ (b : Bool). cond b Taken Refused) (sym c.in_ok-is_safe.ensures.safe ∙ c.if-not-branch.true))

pub put_source-requires-clause-measure : goal.put_source-requires-clause-measure
put_source-requires-clause-measure c = subst (λ (hs : List Held). c.args.measure < length hs) (sym c.is_safe.ensures.held) (source_there (shown c.args.core.now c.args.policy.now) c.args.self.now c.args.measure c.args.levels.now c.requires.stands c.requires.allowed)

pub put_source-requires-clause-suits : goal.put_source-requires-clause-suits
put_source-requires-clause-suits c = subst (λ (hs : List Held). CanEnd (Source c.in-Would.narrower) (get_or hs c.args.measure held.Open)) (sym c.is_safe.ensures.held) (source_ends (shown c.args.core.now c.args.policy.now) c.args.self.now c.args.measure c.args.levels.now c.in-Would.narrower c.requires.stands c.requires.none c.requires.allowed)

pub returns-clause-taken : goal.returns-clause-taken
returns-clause-taken c =
    let narrows = source_narrows (shown c.args.core.now c.args.policy.now) c.args.self.now c.args.measure c.args.levels.now c.in_ok-asked.asked c.in-Would.narrower c.requires.stands c.requires.none c.requires.allowed c.in_ok-asked.ensures (sym c.in-Would.is ∙ c.step_with.ensures) in
    sym (narrows.becomes ∙ ap (λ (b : Bool). cond b Taken Refused) (sym c.in_ok-is_safe.ensures.safe ∙ c.if-not-branch.false))

pub returns-clause-stands : goal.returns-clause-stands
returns-clause-stands c =
    let narrows = source_narrows (shown c.args.core.now c.args.policy.now) c.args.self.now c.args.measure c.args.levels.now c.in_ok-asked.asked c.in-Would.narrower c.requires.stands c.requires.none c.requires.allowed c.in_ok-asked.ensures (sym c.in-Would.is ∙ c.step_with.ensures) in
    source_stands (shown c.args.core.now c.args.policy.now) c.args.self.now c.put_source.new.self c.args.measure c.args.levels.now c.in-Would.narrower c.requires.stands c.requires.none c.requires.allowed narrows (sym c.in_ok-is_safe.ensures.safe ∙ c.if-not-branch.false)
    (c.in_ok-put_source.ensures.history ∙ ap (λ (h : List Entry). h ++ SourceOf c.args.measure c.args.levels.now ∷ []) c.is_safe.ensures.history)
    (c.in_ok-put_source.ensures.held ∙ ap (λ (hs : List Held). set hs c.args.measure (held.Source (Some c.in-Would.narrower))) c.is_safe.ensures.held)
    c.put_source.ensures.none (subst (IsTableOf (shown c.args.core.now c.args.policy.now)) (sym c.put_source.ensures.table) c.is_safe.ensures.table)
