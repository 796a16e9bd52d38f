-- The items of a transcript, one after another.
use Rattle.std.proofs.Common.{◌≡◌, refl, sym, ap, ◌∙◌, ℕ, ◌+◌, ◌<◌, ◌≤◌, List, [], ◌∷◌, ◌++◌, length, map, drop, get_or, Some, None, Result, Ok, Err, append_assoc, append-nil, arith, ltb, false}
use Rattle.std.proofs.lemmas.List.{at_drop_more, at_drop_all, length-map}
use Rattle.std.proofs.lemmas.Bool.{lt-ltb, cond-true, cond-false}
use Rattle.std.proofs.lemmas.Bool.Decides.{nat_tests}
use Rattle.serde_json.specs.Data.{Data, null, boolean, number, string, array, object}
use Rattle.serde_json.specs.Find.{as_array}
use Rattle.serde_json.specs.View.{items_of as data_items}
use Rattle.cube_audit.specs.Transcripts.{item_of, values_in, before, with_item, items_from, items_of, array_said}
use Rattle.cube_audit.specs.declared.transcript.TranscriptFault.{TranscriptFault}
use Rattle.cube_audit.specs.declared.transcript.TranscriptFault.TheVariants as fault
use Rattle.cube_audit.specs.declared.transcript.TranscriptItem.{TranscriptItem}

pub values_back : (ds : List Data) → values_in (data_items ds) ≡ ds
values_back [] = refl
values_back (d ∷ ds) = ap (λ es. d ∷ es) (values_back ds)

-- items that were read before
abbrev pub behind : List TranscriptItem → Result (List TranscriptItem) TranscriptFault → Result (List TranscriptItem) TranscriptFault
behind made (Ok items) = Ok (made ++ items)
behind made (Err e) = Err e

pub nothing_before : (rest : Result (List TranscriptItem) TranscriptFault) → behind [] rest ≡ rest
nothing_before (Ok items) = refl
nothing_before (Err e) = refl

one_more : (made : List TranscriptItem) (i : TranscriptItem) (rest : Result (List TranscriptItem) TranscriptFault) → behind made (before i rest) ≡ behind (made ++ i ∷ []) rest
one_more made i (Ok items) = ap Ok (sym (append_assoc made (i ∷ []) items))
one_more made i (Err e) = refl

module _ {V : Type 0} (view : V → Data) (vs : List V) (k : ℕ) (v : V) (within : k < length vs) (is : v ≡ get_or vs k v) (made : List TranscriptItem) where
  here : behind made (items_from (k + 1) (map view (drop k vs))) ≡ behind made (with_item (k + 1) (item_of (view v)) (items_from (k + 1 + 1) (map view (drop (k + 1) vs))))
  here =
      at_drop_more (λ rest. behind made (items_from (k + 1) (map view rest))) vs k v within
      ∙ ap (λ x. behind made (with_item (k + 1) (item_of (view x)) (items_from (k + 1 + 1) (map view (drop (k + 1) vs))))) (sym is)

  pub next_item : (i : TranscriptItem) → Some i ≡ item_of (view v) → behind (made ++ i ∷ []) (items_from (k + 1 + 1) (map view (drop (k + 1) vs))) ≡ behind made (items_from (k + 1) (map view (drop k vs)))
  next_item i e =
      sym (here ∙ ap (λ o. behind made (with_item (k + 1) o (items_from (k + 1 + 1) (map view (drop (k + 1) vs))))) (sym e) ∙ one_more made i (items_from (k + 1 + 1) (map view (drop (k + 1) vs))))

  pub no_item : None ≡ item_of (view v) → behind made (items_from (k + 1) (map view (drop k vs))) ≡ Err (fault.Item (k + 1))
  no_item e = here ∙ ap (λ o. behind made (with_item (k + 1) o (items_from (k + 1 + 1) (map view (drop (k + 1) vs))))) (sym e)

pub all_read : {V : Type 0} (view : V → Data) (vs : List V) (k : ℕ) (made : List TranscriptItem) → length vs ≤ k → behind made (items_from (k + 1) (map view (drop k vs))) ≡ Ok made
all_read view vs k made past = at_drop_all (λ rest. behind made (items_from (k + 1) (map view rest))) vs k past ∙ ap Ok (append-nil made)

pub too_many : {V : Type 0} (view : V → Data) (vs : List V) → 65536 < length vs → items_of (map view vs) ≡ Err fault.Limit
unfolding items_of
too_many view vs many =
    let long : length (map view vs) ≡ length vs = length-map vs view in
    cond-true (ltb 65536 (length (map view vs))) (Err fault.Limit) (items_from 1 (map view vs)) (lt-ltb 65536 (length (map view vs)) (omega (arith, long, many)))

pub few_enough : {V : Type 0} (view : V → Data) (vs : List V) → length vs ≤ 65536 → items_of (map view vs) ≡ items_from 1 (map view vs)
unfolding items_of
few_enough view vs few =
    let long : length (map view vs) ≡ length vs = length-map vs view in
    cond-false (ltb 65536 (length (map view vs))) (Err fault.Limit) (items_from 1 (map view vs)) (not_below (length (map view vs)) (omega (arith, long, few)))
  where
    not_below : (n : ℕ) → n ≤ 65536 → ltb 65536 n ≡ false
    not_below n l = grind (arith, nat_tests)

-- ---- the value as a whole

pub is_array : (d : Data) (ds : List Data) → Some (data_items ds) ≡ as_array d → array_said d ≡ items_of ds
is_array null ds e = absurd (cc)
is_array (boolean b) ds e = absurd (cc)
is_array (number n) ds e = absurd (cc)
is_array (string s) ds e = absurd (cc)
is_array (array is) ds e =
    let same : data_items ds ≡ is = cc in
    ap (λ x. items_of (values_in x)) (sym same) ∙ ap items_of (values_back ds)
is_array (object ms) ds e = absurd (cc)

pub no_array : (d : Data) → None ≡ as_array d → array_said d ≡ Err fault.NotArray
no_array null e = refl
no_array (boolean b) e = refl
no_array (number n) e = refl
no_array (string s) e = refl
no_array (array is) e = absurd (cc)
no_array (object ms) e = refl
