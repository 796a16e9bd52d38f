-- A piece that is written front by front at the end of a file.
use Rattle.std.proofs.Common.{◌≡◌, ℕ, List, [], ◌∷◌, ◌++◌, refl, sym, ◌∙◌, ap, subst, append_assoc, append-nil}
use Rattle.std.specs.Prelude.{IsTrue}
use Rattle.cube_io.specs.States.{State, Log, Passed, Appended, appended, joined, grown, last_of}
use Rattle.cube_edge.specs.Disks.{DiskState, Rests, WorksAt}

joined_append : (ps qs : List (List ℕ)) → joined (ps ++ qs) ≡ joined ps ++ joined qs
joined_append [] qs = refl
joined_append (p ∷ ps) qs = ap (λ (l : List ℕ). p ++ l) (joined_append ps qs) ∙ sym (append_assoc p (joined ps) (joined qs))

grown_append : (s : State) (ps qs : List (List ℕ)) → grown s (ps ++ qs) ≡ grown s ps ++ grown (last_of s (grown s ps)) qs
grown_append s [] qs = refl
grown_append s (p ∷ ps) qs = ap (λ (l : List State). appended s p ∷ l) (grown_append (appended s p) ps qs)

last_append : (s : State) (xs ys : List State) → last_of s (xs ++ ys) ≡ last_of (last_of s xs) ys
last_append s [] ys = refl
last_append s (x ∷ xs) ys = last_append x xs ys

pub appended_none : (l : Log) (piece : List ℕ) → Appended piece piece l l
appended_none l piece = record { parts = []; split = refl; passed = record { trail = sym (append-nil l.trail); state = refl } }

passed_then : (a b c : Log) (ps qs : List (List ℕ)) → Passed a b (grown a.state ps) → Passed b c (grown b.state qs) → Passed a c (grown a.state (ps ++ qs))
passed_then a b c ps qs f g =
    let on : grown b.state qs ≡ grown (last_of a.state (grown a.state ps)) qs = ap (λ (s : State). grown s qs) f.state in
    let all : grown a.state ps ++ grown b.state qs ≡ grown a.state (ps ++ qs) = ap (λ (l : List State). grown a.state ps ++ l) on ∙ sym (grown_append a.state ps qs) in
    record {
      trail = g.trail ∙ ap (λ (l : List State). l ++ grown b.state qs) f.trail ∙ append_assoc a.trail (grown a.state ps) (grown b.state qs) ∙ ap (λ (l : List State). a.trail ++ l) all;
      state = g.state ∙ ap (λ (s : State). last_of s (grown b.state qs)) f.state ∙ sym (last_append a.state (grown a.state ps) (grown b.state qs)) ∙ ap (λ (l : List State). last_of a.state l) all;
    }

pub appended_then : (a b c : Log) (piece rest unsaid : List ℕ) → Appended piece rest a b → Appended rest unsaid b c → Appended piece unsaid a c
appended_then a b c piece rest unsaid f g = record {
  parts = f.parts ++ g.parts;
  split = f.split ∙ ap (λ (l : List ℕ). joined f.parts ++ l) g.split ∙ sym (append_assoc (joined f.parts) (joined g.parts) unsaid) ∙ ap (λ (l : List ℕ). l ++ unsaid) (sym (joined_append f.parts g.parts));
  passed = passed_then a b c f.parts g.parts f.passed g.passed;
}

pub works_then : (path : List ℕ) (a b c : DiskState) → WorksAt path a b → WorksAt path b c → WorksAt path a c
works_then path a b c f g = record {
  told = g.told ∙ f.told;
  name = g.name ∙ f.name;
  names = g.names ∙ f.names;
  others = λ told other differs. g.others (subst IsTrue (sym f.told) told) other differs ∙ f.others told other differs;
}

-- one write more, of the same file
pub works_on : (path place : List ℕ) (a b c : DiskState) → place ≡ path → WorksAt path a b → WorksAt place b c → WorksAt path a c
works_on path place a b c is f g = works_then path a b c f (subst (λ (p : List ℕ). WorksAt p b c) is g)

pub appended_on : (path place : List ℕ) (a b c : DiskState) (piece rest unsaid : List ℕ) → place ≡ path → Appended piece rest (a.logs path) (b.logs path) → Appended rest unsaid (b.logs place) (c.logs place) → Appended piece unsaid (a.logs path) (c.logs path)
appended_on path place a b c piece rest unsaid is f g = appended_then (a.logs path) (b.logs path) (c.logs path) piece rest unsaid f (subst (λ (p : List ℕ). Appended rest unsaid (b.logs p) (c.logs p)) is g)

pub nothing_appended : (path piece : List ℕ) (a b : DiskState) → Rests a b → IsTrue a.told → Appended piece piece (a.logs path) (b.logs path)
nothing_appended path piece a b rests told = subst (λ (l : Log). Appended piece piece (a.logs path) l) (sym (rests.logs told path)) (appended_none (a.logs path) piece)
