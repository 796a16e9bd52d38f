use Rattle.std.specs.Prelude.{codes, slice_index_or}
use Rattle.std.proofs.Common.{◌≡◌, ◌⊎◌, inl, inr, ⊎_elim, List, [], ◌∷◌, refl, sym, ap, ◌∙◌, subst, arith}
use Rattle.std.specs.Fmt.{digits}
use Rattle.cube_model.specs.declared.ask.Ask.{Ask}
use Rattle.cube_model.specs.declared.ask.Question.TheVariants.{Query}
use Rattle.cube_model.specs.declared.entry.Entry.{Entry}
use Rattle.cube_model.specs.declared.entry.Entry.TheVariants.{Asked}
use Rattle.cube_model.specs.declared.outcome.Outcome.TheVariants.{Given, NoMemory}
use Rattle.cube_model.specs.declared.request.Request.{Request}
use Rattle.cube_model.specs.Cubes.{up, key_at}
use Rattle.cube_model.specs.Protection.{protected, cutting_pairs}
use Rattle.cube_model.specs.Requests.{is_picked, is_valid, grain}
use Rattle.cube_model.specs.Rooms.{Room}
use Rattle.cube_model.specs.Verdicts.{source, verdict}
use Rattle.cube_core.specs.Worked.{pay_core}
use Rattle.cube_dims.specs.Examples.{pay_dims}
use Rattle.cube_query.specs.Faults.{request_of}
use Rattle.cube_query.specs.Grammar.{queries, is_begun, syntax_at, query_of}
use Rattle.cube_query.specs.Requests.{resolved}
use Rattle.cube_text.specs.Quoting.{is_bare}
use Rattle.cube_engine.specs.Examples.{own, pay_rooms, months}
use Rattle.cube_engine.specs.Steps.{manner}
use Rattle.cube_server.specs.Crashes.{IsInHand}
use Rattle.cube_serving.specs.Examples.{areas, pay_run, two_calls}
use Rattle.cube_serving.specs.Serving.{IsInTurn, RoomHas}
use Rattle.cube_serving.proofs.worked.worked_in_hand.Goals as goal

abbrev by_month : Ask
by_month = own (Query (codes "slice pay by time.month"))

abbrev by_area : Ask
by_area = own (Query (codes "slice pay by region.area"))

abbrev after_months : List Room
after_months = pay_rooms (Asked months ∷ [])

enters : (manner pay_dims).next (pay_rooms []) by_month Given ≡ after_months
unfolding digits up key_at protected cutting_pairs is_bare is_picked queries is_begun syntax_at query_of request_of resolved grain source verdict is_valid
enters = refl

stays : (manner pay_dims).next after_months by_area Given ≡ after_months
unfolding digits up key_at protected cutting_pairs is_bare is_picked queries is_begun syntax_at query_of request_of resolved grain source verdict is_valid
stays = refl

spares : (manner pay_dims).next (pay_rooms []) by_month NoMemory ≡ pay_rooms []
unfolding digits up key_at protected cutting_pairs is_bare is_picked queries is_begun syntax_at query_of request_of resolved grain source verdict is_valid
spares = refl

behind_months : (here : List Room) → IsInHand (manner pay_dims) after_months (record { ask = by_area; outcome = Given } ∷ []) here → here ≡ after_months
behind_months here (inl e) = e
behind_months here (inr (inl e)) = e.1 ∙ stays
behind_months here (inr (inr e)) = e ∙ stays

-- in hand are the rooms at first, and those behind pay by month
in_hand : (here : List Room) → IsInHand (manner pay_dims) (pay_rooms []) two_calls here → (here ≡ pay_rooms []) ⊎ (here ≡ after_months)
in_hand here (inl e) = inl e
in_hand here (inr (inl e)) = inr (e.1 ∙ enters)
in_hand here (inr (inr i)) = inr (behind_months here (subst (λ (rooms : List Room). IsInHand (manner pay_dims) rooms (record { ask = by_area; outcome = Given } ∷ []) here) enters i))

-- so each history in hand is one of two
one_of_two : (h : List Entry) → IsInTurn pay_core (pay_run ∷ []) two_calls 0 h → (h ≡ []) ⊎ (h ≡ Asked months ∷ [])
one_of_two h x = ⊎_elim (λ e. inl (subst (λ (rooms : List Room). RoomHas 0 rooms h) e x.2)) (λ e. inr (subst (λ (rooms : List Room). RoomHas 0 rooms h) e x.2)) (in_hand x.0 x.1)

pub returns-clause-begins : goal.returns-clause-begins
returns-clause-begins c = (pay_rooms [], inl refl, refl)

pub returns-clause-months : goal.returns-clause-months
returns-clause-months c = (after_months, inr (inl ((λ e. cc), sym enters)), refl)

pub returns-clause-alone : goal.returns-clause-alone
returns-clause-alone c = λ x. ⊎_elim (λ (e : Asked areas ∷ [] ≡ []). absurd (cc)) (λ (e : Asked areas ∷ [] ≡ Asked months ∷ []). other e) (one_of_two (Asked areas ∷ []) x)
  where
    other : Asked areas ∷ [] ≡ Asked months ∷ [] → ⊥
    other e =
        let same : areas ≡ months = cc in
        let levels : 1 ≡ 2 = ap (λ (r : Request). slice_index_or r.group 0 0) same in
        absurd (omega (arith, levels))

pub returns-clause-behind : goal.returns-clause-behind
returns-clause-behind c = λ x. ⊎_elim (λ (e : Asked months ∷ Asked areas ∷ [] ≡ []). absurd (cc)) (λ (e : Asked months ∷ Asked areas ∷ [] ≡ Asked months ∷ []). absurd (cc)) (one_of_two (Asked months ∷ Asked areas ∷ []) x)

-- where there was no memory for the ask, nothing of it is in hand
pub returns-clause-spared : goal.returns-clause-spared
returns-clause-spared c = λ x. absurd (first_is (subst (λ (rooms : List Room). RoomHas 0 rooms (Asked months ∷ [])) (in_hand_spared x.0 x.1) x.2))
  where
    in_hand_spared : (here : List Room) → IsInHand (manner pay_dims) (pay_rooms []) (record { ask = by_month; outcome = NoMemory } ∷ []) here → here ≡ pay_rooms []
    in_hand_spared here (inl e) = e
    in_hand_spared here (inr (inl e)) = absurd (e.0 refl)
    in_hand_spared here (inr (inr e)) = e ∙ spares

    first_is : Asked months ∷ [] ≡ [] → ⊥
    first_is e = cc
