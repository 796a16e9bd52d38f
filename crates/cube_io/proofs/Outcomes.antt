-- What became of the asks, with one more, and how often the store is called for it.
use Rattle.std.proofs.Common.{◌≡◌, ◌≢◌, ◌⊎◌, inl, inr, ◌≤◌, Bool, true, false, cond, List, [], ◌∷◌, ◌++◌, refl, sym, subst, arith}
use Rattle.std.proofs.lemmas.Bool.{false≢true}
use Rattle.cube_model.specs.declared.outcome.Outcome.{Outcome}
use Rattle.cube_model.specs.declared.outcome.Outcome.TheVariants.{Given, JournalFault, NoMemory}
use Rattle.cube_io.specs.Desks.{has_fault}
use Rattle.cube_io.specs.Seen.{StoreState}
use Rattle.cube_io.specs.Told.{Works}

faults_stay : (os : List Outcome) (o : Outcome) → has_fault os ≡ true → has_fault (os ++ o ∷ []) ≡ true
faults_stay [] o h = absurd (false≢true h)
faults_stay (Given ∷ os) o h = faults_stay os o h
faults_stay (JournalFault ∷ os) o h = refl
faults_stay (NoMemory ∷ os) o h = faults_stay os o h

faults_begin : (os : List Outcome) → has_fault (os ++ JournalFault ∷ []) ≡ true
faults_begin [] = refl
faults_begin (Given ∷ os) = faults_begin os
faults_begin (JournalFault ∷ os) = refl
faults_begin (NoMemory ∷ os) = faults_begin os

-- what holds only behind a fault holds only behind one with an ask more, where only a fault makes it hold
pub only_faults : (os : List Outcome) (o : Outcome) (before now : Bool) → (before ≡ true → has_fault os ≡ true) → (o ≢ JournalFault → now ≡ true → before ≡ true)
    → now ≡ true → has_fault (os ++ o ∷ []) ≡ true
only_faults os Given before now h f e = faults_stay os Given (h (f (λ k. cc) e))
only_faults os JournalFault before now h f e = faults_begin os
only_faults os NoMemory before now h f e = faults_stay os NoMemory (h (f (λ k. cc) e))

-- an ask found memory, or it did not
pub memory_or_not : (o : Outcome) → (o ≡ NoMemory) ⊎ (o ≢ NoMemory)
memory_or_not Given = inr (λ e. cc)
memory_or_not JournalFault = inr (λ e. cc)
memory_or_not NoMemory = inl refl

-- the last outcome is told by all
pub last_outcome : (os : List Outcome) (o p : Outcome) → os ++ o ∷ [] ≡ os ++ p ∷ [] → o ≡ p
last_outcome [] o p e = cc
last_outcome (x ∷ os) o p e = last_outcome os o p cc

at_least : (b : Bool) → 2 ≤ cond b 4 2
at_least true = omega (arith)
at_least false = omega (arith)

-- four calls where the one holds are no more than where the other does, which holds then too
few_calls : (b c : Bool) → (b ≡ true → c ≡ true) → cond b 4 2 ≤ cond c 4 2
few_calls true c h = subst (λ (d : Bool). 4 ≤ cond d 4 2) (sym (h refl)) (omega (arith))
few_calls false c h = at_least c

pub works_more : (b c : Bool) (old new : StoreState) → (b ≡ true → c ≡ true) → Works old new (cond b 4 2) → Works old new (cond c 4 2)
works_more b c old new h w = record {
  told = w.told;
  attached = w.attached;
  names = w.names;
  calls = λ told. let few = few_calls b c h in let calls = w.calls told in omega (arith, few, calls);
}
