use Rattle.std.specs.List.{find}
use Rattle.std.proofs.Common.{◌≡◌, ◌<◌, ◌^◌, ℕ, List, [], ◌∷◌, ◌++◌, length, refl, sym, ap, ◌∙◌, subst, rules, Some, None}
use Rattle.std.proofs.lemmas.List.{map_push}
use Rattle.cube_model.specs.declared.link.Link.{Link}
use Rattle.cube_model.specs.Links.{suiting}
use Rattle.cube_model.specs.LinkLaws.{IsOfPlaces}
use Rattle.cube_model.specs.Verdicts.{fixed_by}
use Rattle.cube_colour.specs.declared.step.Step.{Step}
use Rattle.cube_colour.specs.Colourings.{Colouring}
use Rattle.cube_colour.specs.Forests.{Labels, is_fixed, IsLabelled, AreGuarded, relabelled}
use Rattle.cube_colour.specs.Outcomes.{IsGrown}
use Rattle.cube_colour.specs.Steps.{links_of}
use Rattle.cube_colour.proofs.History.{forest, grown, basis_same, follows_here, first_here, longer, room, stands_after}
use Rattle.cube_colour.proofs.colouring.Colouring.add.Goals as goal

pub effect-requires-clause-forest : goal.effect-requires-clause-forest
effect-requires-clause-forest c = forest c.self.inside.places c.self.inside.guarded c.self.inside.steps.items c.self.inside.forest c.self.invariant

pub returns-in-Follows-clause-grows : goal.returns-in-Follows-clause-grows
returns-in-Follows-clause-grows c =
    let s = c.self.inside in
    let view : List Link → Colouring = λ kept. record { places = s.places; guarded = s.guarded; kept = kept } in
    subst (λ (v : Colouring). IsGrown v v c.args.link) c.self.view_is
    (record {
      kept = ap view (sym (basis_same s.places (links_of s.steps.items) c.args.link c.self.invariant.own_basis (follows_here s.places s.guarded s.steps.items s.forest c.self.invariant c.args.link c.in-Follows.ensures.does)));
      rules = Rattle.cube_colour.proofs.History.rules s.places s.guarded s.steps.items s.forest c.self.invariant;
    })

pub first_fixed-requires-clause-forest : goal.first_fixed-requires-clause-forest
first_fixed-requires-clause-forest c = forest c.self.inside.places c.self.inside.guarded c.self.inside.steps.items c.self.inside.forest c.self.invariant

pub first_fixed-requires-clause-guarded : goal.first_fixed-requires-clause-guarded
first_fixed-requires-clause-guarded c =
    let s = c.self.inside in
    subst (λ (guards : List ℕ). Rattle.std.specs.List.All (λ place. place < length s.forest) guards) (sym c.as_slice.ensures)
    (subst (λ (n : ℕ). Rattle.std.specs.List.All (λ place. place < n) s.guarded) (sym (grown s.places s.guarded s.steps.items s.forest c.self.invariant).long) c.self.invariant.below)

pub returns-in-Some-clause-grows : goal.returns-in-Some-clause-grows
returns-in-Some-clause-grows c =
    let s = c.self.inside in
    let found = subst (λ (guards : List ℕ). (l : Labels) → IsLabelled s.forest l → AreGuarded guards l → Some c.in-Some.place ≡ find (is_fixed (relabelled c.in-Changes.change l)) guards) c.as_slice.ensures c.in-Some.ensures in (
      refl,
      subst (λ (v : Colouring). fixed_by (suiting v.places (v.kept ++ c.args.link ∷ [])) v.guarded ≡ Some c.in-Some.place) c.self.view_is
          (first_here s.places s.guarded s.steps.items s.forest c.self.invariant c.args.link c.in-Changes.change c.in-Changes.ensures.fits c.in-Changes.ensures.does (Some c.in-Some.place) found),
    )

pub change-requires-clause-room : goal.change-requires-clause-room
change-requires-clause-room c =
    let s = c.self.inside in
    let small : s.places < 2 ^ 32 = search rules in
    room s.places s.guarded s.steps.items s.forest c.self.invariant c.args.link c.in-Changes.change c.in-Changes.ensures.fits c.in-Changes.ensures.does small

pub invariant_of-self-2 : goal.invariant_of-self-2
invariant_of-self-2 c =
    let s = c.self.inside in
    let none = subst (λ (guards : List ℕ). (l : Labels) → IsLabelled s.forest l → AreGuarded guards l → None ≡ find (is_fixed (relabelled c.in-Changes.change l)) guards) c.as_slice.ensures c.in_default.ensures in
    let of = subst (λ (v : Colouring). IsOfPlaces v.places c.args.link) (sym c.self.view_is) c.requires in
    stands_after s.places s.guarded s.steps.items s.forest c.self.invariant c.args.link c.in-Changes.change c.in-Changes.ensures.fits c.in-Changes.ensures.does c.saved-saved.result of c.saved-saved.ensures.back c.saved-saved.ensures.first c.saved-saved.ensures.second none
    c.push.new.self.items c.change.new.self c.in_ok-push.ensures.items c.change.ensures

pub returns-clause-grows : goal.returns-clause-grows
returns-clause-grows c =
    let s = c.self.inside in
    let none = subst (λ (guards : List ℕ). (l : Labels) → IsLabelled s.forest l → AreGuarded guards l → None ≡ find (is_fixed (relabelled c.in-Changes.change l)) guards) c.as_slice.ensures c.in_default.ensures in
    let of = subst (λ (v : Colouring). IsOfPlaces v.places c.args.link) (sym c.self.view_is) c.requires in
    let links = ap links_of c.in_ok-push.ensures.items ∙ map_push (λ (t : Step). t.link) s.steps.items (record { link = c.args.link; saved = c.saved-saved.result }) in
    let view : List Link → Colouring = λ kept. record { places = s.places; guarded = s.guarded; kept = kept } in
    subst (λ (v : Colouring). IsGrown v (view (links_of c.push.new.self.items)) c.args.link) c.self.view_is
    (record {
      kept = ap view (links ∙ sym (longer s.places s.guarded s.steps.items s.forest c.self.invariant c.args.link c.in-Changes.change c.in-Changes.ensures.fits c.in-Changes.ensures.does));
      rules = Rattle.cube_colour.proofs.History.rules s.places s.guarded c.push.new.self.items c.change.new.self (stands_after s.places s.guarded s.steps.items s.forest c.self.invariant c.args.link c.in-Changes.change c.in-Changes.ensures.fits c.in-Changes.ensures.does c.saved-saved.result of c.saved-saved.ensures.back c.saved-saved.ensures.first c.saved-saved.ensures.second none
          c.push.new.self.items c.change.new.self c.in_ok-push.ensures.items c.change.ensures);
    })
