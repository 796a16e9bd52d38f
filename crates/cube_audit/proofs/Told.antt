-- From what was examined to what an audit tells.
use Rattle.std.specs.List.{All}
use Rattle.std.proofs.Common.{◌≡◌, refl, sym, ap, ◌∙◌, subst, ℕ, suc, ◌≤◌, Bool, true, false, cond, List, [], ◌∷◌, length, filter, Option, Some, None, arith}
use Rattle.cube_model.specs.declared.policy.Policy.{Policy}
use Rattle.cube_model.specs.declared.request.Request.{Request}
use Rattle.cube_model.specs.Cores.{Core, IsCore, shown, world}
use Rattle.cube_model.specs.Cubes.{IsIn, count_from}
use Rattle.cube_model.specs.Entries.{asked}
use Rattle.cube_model.specs.Policies.{IsPolicy}
use Rattle.cube_model.specs.Requests.{is_valid}
use Rattle.cube_answers.proofs.Keys.{all_in}
use Rattle.cube_audit.specs.Audits.{is_examined, examined, asked_by, inexact_from, kept_or_fixed, unless_inexact, audited}
use Rattle.cube_audit.specs.Examining.{examined_as}
use Rattle.cube_audit.specs.declared.auditing.Audited.TheVariants.{Inexact}
use Rattle.cube_audit.specs.declared.exact.Examined.TheVariants as outcome
use Rattle.cube_audit.specs.declared.transcript.TranscriptItem.{TranscriptItem}
use Rattle.cube_audit.proofs.Examining.{exact_all, as_many, asked_valid}

pub no_inexact : (o : Option ℕ) (rs is : List Request) → outcome.Exact rs ≡ examined_as o is → o ≡ None
no_inexact None rs is e = refl
no_inexact (Some k) rs is e = absurd (cc)

pub same_requests : (o : Option ℕ) (rs is : List Request) → outcome.Exact rs ≡ examined_as o is → rs ≡ is
same_requests None rs is e = cc
same_requests (Some k) rs is e = absurd (cc)

first_inexact : (o : Option ℕ) (k : ℕ) (is : List Request) → outcome.Inexact k ≡ examined_as o is → o ≡ Some k
first_inexact None k is e = absurd (cc)
first_inexact (Some j) k is e = let same : k ≡ j = cc in ap Some (sym same)

filter_short : (p : TranscriptItem → Bool) (xs : List TranscriptItem) → length (filter p xs) ≤ length xs
filter_short p [] = omega arith
filter_short p (x ∷ xs) = go (p x) (filter_short p xs)
  where
    go : (b : Bool) → length (filter p xs) ≤ length xs → length (cond b (x ∷ filter p xs) (filter p xs)) ≤ suc (length xs)
    go true h = omega (arith, h)
    go false h = omega (arith, h)

module _ (c : Core) (p : Policy) (items : List TranscriptItem) where
  pub told_inexact : (k : ℕ) → outcome.Inexact k ≡ examined_as (inexact_from c.dims (world c p) 1 items) (asked_by c.dims items) → Inexact k ≡ audited c p items
  unfolding audited
  told_inexact k e =
      sym (ap (unless_inexact (kept_or_fixed (length (examined items)) (shown c p) (asked (asked_by c.dims items)) (count_from 0 (length c.dims.measures))))
      (first_inexact (inexact_from c.dims (world c p) 1 items) k (asked_by c.dims items) e))

  module _ (rs : List Request) (e : outcome.Exact rs ≡ examined_as (inexact_from c.dims (world c p) 1 items) (asked_by c.dims items)) where
    none : inexact_from c.dims (world c p) 1 items ≡ None
    none = no_inexact (inexact_from c.dims (world c p) 1 items) rs (asked_by c.dims items) e

    same : rs ≡ asked_by c.dims items
    same = same_requests (inexact_from c.dims (world c p) 1 items) rs (asked_by c.dims items) e

    many : length (asked_by c.dims items) ≡ length (examined items)
    many = as_many c.dims (world c p) items (exact_all c.dims (world c p) 1 items none)

    pub told_few : length items ≤ 65536 → length rs ≤ 65536
    told_few few =
        let long : length rs ≡ length (asked_by c.dims items) = ap length same in
        let as_many_items = many in
        let short = filter_short is_examined items in
        omega (arith, long, as_many_items, short, few)

    pub told_valid : IsCore c → IsPolicy c.dims p → All (λ r. is_valid (shown c p) r ≡ true) rs
    told_valid ok policy = all_in (λ r. is_valid (shown c p) r ≡ true) rs (λ r i. asked_valid c p items r ok.dims policy (subst (IsIn r) same i))

    pub told_kept : kept_or_fixed (length rs) (shown c p) (asked rs) (count_from 0 (length c.dims.measures)) ≡ audited c p items
    unfolding audited
    told_kept =
        ap (λ xs. kept_or_fixed (length xs) (shown c p) (asked xs) (count_from 0 (length c.dims.measures))) same
        ∙ ap (λ n. kept_or_fixed n (shown c p) (asked (asked_by c.dims items)) (count_from 0 (length c.dims.measures))) many
        ∙ sym (ap (unless_inexact (kept_or_fixed (length (examined items)) (shown c p) (asked (asked_by c.dims items)) (count_from 0 (length c.dims.measures)))) none)
