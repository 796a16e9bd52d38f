use Rattle.std.proofs.Common.{◌≡◌, ◌≤◌, ◌∙◌, List, [], ◌∷◌, ◌++◌, ℕ, inl, inr, ⊎_elim, refl, subst, ap, length, arith}
use Rattle.std.specs.Prelude.{codes}
use Rattle.cube_model.specs.declared.ask.Question.{Question}
use Rattle.cube_model.specs.declared.ask.Question.TheVariants.{Query, Witness, Shape}
use Rattle.cube_model.specs.declared.outcome.Outcome.{Outcome}
use Rattle.cube_model.specs.declared.outcome.Outcome.TheVariants.{Given, JournalFault}
use Rattle.cube_model.specs.Rooms.{Room}
use Rattle.cube_talk.specs.Asks.{question_of, rooms_behind}
use Rattle.cube_talk.specs.Failing.{entered, enters, two_lines}
use Rattle.cube_talk.proofs.worked.worked_hand.Goals as goal

pub returns-clause-nothing : goal.returns-clause-nothing
returns-clause-nothing c = λ r. inl (record { first = []; more = two_lines; split = refl; are = refl })

pub returns-clause-first : goal.returns-clause-first
returns-clause-first c = λ r. inr (record {
  first = [];
  line = codes "shape";
  more = codes "a" ∷ [];
  split = refl;
  short = refl;
  earlier = [];
  outcome = JournalFault;
  later = Given ∷ [];
  outcomes_split = refl;
  in_turn = refl;
  found = λ e. cc;
  are = refl;
})

pub returns-clause-second : goal.returns-clause-second
returns-clause-second c = λ r. inl (record { first = two_lines; more = []; split = refl; are = refl })

abbrev fate : List Outcome
fate = JournalFault ∷ Given ∷ []

first_is : (x : List ℕ) (more : List (List ℕ)) → two_lines ≡ x ∷ more → codes "shape" ≡ x
first_is x more e = cc

-- behind the first of the lines there is no room, behind both there are two
few_behind : (r : Room) (first more : List (List ℕ)) → two_lines ≡ first ++ more → length (rooms_behind (enters r) [] first fate) ≤ 2
few_behind r [] more e = omega arith
few_behind r (x ∷ []) more e = subst (λ (l : List ℕ). length (rooms_behind (enters r) [] (l ∷ []) fate) ≤ 2) (first_is x more e) (omega arith)
few_behind r (x ∷ y ∷ first) more e = subst (λ (ls : List (List ℕ)). length (rooms_behind (enters r) [] ls fate) ≤ 2) (whole first more e) (omega arith)
  where
    whole : (first more : List (List ℕ)) → two_lines ≡ x ∷ y ∷ (first ++ more) → two_lines ≡ x ∷ y ∷ first
    whole [] more e = cc
    whole (z ∷ first) more e = cc

none_behind : (r : Room) (first : List (List ℕ)) (line : List ℕ) (more : List (List ℕ)) → two_lines ≡ first ++ line ∷ more → rooms_behind (enters r) [] first fate ≡ []
none_behind r [] line more e = refl
none_behind r (x ∷ []) line more e = subst (λ (l : List ℕ). rooms_behind (enters r) [] (l ∷ []) fate ≡ []) (first_is x (line ∷ more) e) refl
none_behind r (x ∷ y ∷ first) line more e = absurd (longer first e)
  where
    longer : (first : List (List ℕ)) → two_lines ≡ x ∷ y ∷ (first ++ line ∷ more) → ⊥
    longer [] e = cc
    longer (z ∷ first) e = cc

-- one ask adds two at most
few_entered : (r : Room) (q : Question) → length (entered r q []) ≤ 2
few_entered r Shape = omega arith
few_entered r (Query text) = omega arith
few_entered r (Witness text) = omega arith

three : (r : Room) (here : List Room) → r ∷ r ∷ r ∷ [] ≡ here → length here ≤ 2 → ⊥
three r here e few = let long = ap (λ (rs : List Room). length rs) e in omega (arith, few, long)

pub returns-clause-both : goal.returns-clause-both
returns-clause-both c = λ r h.
    ⊎_elim (λ w. three r (rooms_behind (enters r) [] w.first fate) w.are (few_behind r w.first w.more w.split))
    (λ w. three r (entered r (question_of w.line) []) (w.are ∙ ap (λ (rs : List Room). entered r (question_of w.line) rs) (none_behind r w.first w.line w.more w.split)) (few_entered r (question_of w.line)))
    h
