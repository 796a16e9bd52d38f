-- What an audit tells is sound, and what it names is there.
use Rattle.std.proofs.Common.{◌≡◌, refl, sym, ap, ◌∙◌, subst, inl, inr, ℕ, true, List, [], ◌∷◌, length, Option, Some, None, arith}
use Rattle.cube_model.specs.declared.cell.Cell.{Cell}
use Rattle.cube_model.specs.declared.entry.Entry.{Entry}
use Rattle.cube_model.specs.declared.policy.Method.{Method}
use Rattle.cube_model.specs.declared.policy.Method.TheVariants.{Plain, Lattice, Parity}
use Rattle.cube_model.specs.declared.policy.Policy.{Policy}
use Rattle.cube_model.specs.Cores.{Core, IsCore, shown, world}
use Rattle.cube_model.specs.Cubes.{Public, Each, IsIn, count_from}
use Rattle.cube_model.specs.Entries.{asked}
use Rattle.cube_model.specs.Kept.{IsKept, IsKeptBy, unkept}
use Rattle.cube_model.specs.Policies.{IsPolicy}
use Rattle.cube_model.specs.Protection.{method, protected}
use Rattle.cube_model.specs.Requests.{is_valid}
use Rattle.cube_model.proofs.Filled.{cores_are_worlds}
use Rattle.cube_model.proofs.Keeps.{kept_requests_are_open, unkept_is}
use Rattle.cube_model.proofs.Members.{count_from_has}
use Rattle.cube_model.proofs.Worlds.{in_list}
use Rattle.cube_audit.specs.Audits.{examined, asked_by, inexact_from, unless_fixed, kept_or_fixed, unless_inexact, audited}
use Rattle.cube_audit.specs.AuditText.{IsThere}
use Rattle.cube_audit.specs.Sound.{AreExact, IsOpenBy, other_world, SaysSound}
use Rattle.cube_audit.specs.declared.auditing.Audited.{Audited}
use Rattle.cube_audit.specs.declared.auditing.Audited.TheVariants.{Yes, Inexact, Fixed}
use Rattle.cube_audit.specs.declared.transcript.TranscriptItem.{TranscriptItem}
use Rattle.cube_audit.proofs.Examining.{exact_all, asked_valid, exact_too}
use Rattle.cube_audit.proofs.Fitting.{all_there}

Each-from : {X : Type 0} (P : X → Type 0) (xs : List X) → ((x : X) → IsIn x xs → P x) → Each P xs
Each-from P [] h = tt
Each-from P (x ∷ xs) h = (h x (inl refl), Each-from P xs (λ y k. h y (inr k)))

-- where all is a yes no measure fails
no_fault : (n : ℕ) (g : Public) (h : List Entry) (ms : List ℕ) (k : ℕ) → kept_or_fixed n g h ms ≡ Yes k → (m : ℕ) → IsIn m ms → unkept g h m ≡ None
no_fault n g h [] k e m i = absurd i
no_fault n g h (x ∷ ms) k e m i = go (unkept g h x) refl e (λ r. no_fault n g h ms k r m) i
  where
    go : (o : Option Cell) → unkept g h x ≡ o → unless_fixed x (kept_or_fixed n g h ms) o ≡ Yes k → (kept_or_fixed n g h ms ≡ Yes k → IsIn m ms → unkept g h m ≡ None) → IsIn m (x ∷ ms) → unkept g h m ≡ None
    go None u e again (inl xm) = ap (unkept g h) (sym xm) ∙ u
    go None u e again (inr j) = again e j
    go (Some t) u e again i = absurd (cc)

module _ (c : Core) (p : Policy) (items : List TranscriptItem) (ok : IsCore c) (policy : IsPolicy c.dims p) where
  -- so each measure is kept, and one that there is not is open
  all_kept : (h : List Entry) (n k : ℕ) → kept_or_fixed n (shown c p) h (count_from 0 (length c.dims.measures)) ≡ Yes k → (m : ℕ) → IsKept (shown c p) h m
  all_kept h n k e m = go (method (shown c p) m) refl
    where
      by : (method (shown c p) m ≡ Plain → ⊥) → IsKept (shown c p) h m
      by way =
          let below = in_list p.methods m way in
          let many = policy.methods in
          (unkept_is (shown c p) h m).0 (no_fault n (shown c p) h (count_from 0 (length c.dims.measures)) k e m (count_from_has m 0 (length c.dims.measures) (omega arith) (omega (arith, below, many))))

      go : (way : Method) → method (shown c p) m ≡ way → IsKept (shown c p) h m
      go Plain way = subst (λ x. IsKeptBy x (shown c p) h m) (sym way) tt
      go Lattice way = by (λ q. absurd (cc))
      go Parity way = by (λ q. absurd (cc))

  opens : AreExact c.dims (world c p) items → (m : ℕ) (t : Cell) → IsKept (shown c p) (asked (asked_by c.dims items)) m → IsIn t (protected (shown c p) m) → IsOpenBy c.dims (world c p) (other_world c p items m t) items m t
  opens exact m t kept is_in =
      let rs = asked_by c.dims items in
      let valid = Each-from (λ r. is_valid (shown c p) r ≡ true) rs (λ r i. asked_valid c p items r ok.dims policy i) in
      let open_to = kept_requests_are_open (world c p) rs m t (cores_are_worlds c p ok policy.methods) valid kept is_in in
      record {
        exact = exact_too c.dims (world c p) (other_world c p items m t) items exact open_to.same_answers;
        other_sum = open_to.other_sum;
      }

  pub is_sound : SaysSound c p items (audited c p items)
  unfolding audited
  is_sound = go (inexact_from c.dims (world c p) 1 items) refl
    where
      all : Audited
      all = kept_or_fixed (length (examined items)) (shown c p) (asked (asked_by c.dims items)) (count_from 0 (length c.dims.measures))

      by : (exact : AreExact c.dims (world c p) items) (a : Audited) → all ≡ a → SaysSound c p items a
      by exact (Yes k) e = record { exact = exact; opens = λ m t i. opens exact m t (all_kept (asked (asked_by c.dims items)) (length (examined items)) k e m) i }
      by exact (Inexact k) e = tt
      by exact (Fixed m t) e = tt

      go : (o : Option ℕ) → inexact_from c.dims (world c p) 1 items ≡ o → SaysSound c p items (unless_inexact all o)
      go None e = by (exact_all c.dims (world c p) 1 items e) all refl
      go (Some k) e = tt

  pub is_there : IsThere c.dims (audited c p items)
  unfolding audited
  is_there = go (inexact_from c.dims (world c p) 1 items)
    where
      go : (o : Option ℕ) → IsThere c.dims (unless_inexact (kept_or_fixed (length (examined items)) (shown c p) (asked (asked_by c.dims items)) (count_from 0 (length c.dims.measures))) o)
      go None = all_there c p ok policy (asked (asked_by c.dims items)) (length (examined items))
      go (Some k) = tt
