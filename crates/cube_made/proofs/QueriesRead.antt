-- Each made query is read.
use Rattle.std.proofs.Common.{◌≡◌, ℕ, zero, suc, ◌*◌, ◌/◌, ◌^◌, ◌<◌, ◌≤◌, true, min, max, List, [], ◌∷◌, map, Ok, refl, sym, ap, ap₂, ◌∙◌, arith, mod-lt}
use Rattle.cube_model.specs.Dims.{Dims}
use Rattle.cube_model.specs.declared.request.Request.{Request}
use Rattle.cube_query.specs.Canonical.{is_request, request_text, pick_text}
use Rattle.cube_query.specs.Faults.{request_of}
use Rattle.cube_query.proofs.Back.{reads_back}
use Rattle.cube_query.proofs.Prints.{request_fits}
use Rattle.cube_gen.specs.Draws.{seed, drawn}
use Rattle.cube_gen.specs.Made.{range_text, made_query, draws_of, queries_from, made_queries}
use Rattle.cube_made.specs.Laws.{IsSize, QueriesAreRead}
use Rattle.cube_made.specs.Values.{branch, month, grade, dims_said}
use Rattle.cube_made.proofs.Rules.{dims_rules}
use Rattle.cube_made.proofs.Asked.{by_month, by_month_is, by_month_valid, by_quarter, by_quarter_text, by_quarter_valid, in_range, in_range_is, in_range_valid, in_cell, in_cell_is, in_cell_valid, of_grade, of_grade_is, of_grade_valid}
use Rattle.cube_made.proofs.Ranges.{range_is_read}

-- the text is read as some request
pub record IsRead (s : Dims) (text : List ℕ) : Type 0 where
  pub request : Request
  pub is : request_of s text ≡ Ok request

canonical : (s : ℕ) (r : Request) (text : List ℕ) → IsSize s → request_text (dims_said s) r ≡ text → is_request (dims_said s) r ≡ true → IsRead (dims_said s) text
canonical s r text h e v = record { request = r; is = ap (request_of (dims_said s)) (sym e) ∙ reads_back (dims_said s) r (dims_rules s h) v }

range_read : (s a b c d e f : ℕ) → IsSize s → a < 40 * s → b < 40 * s → c < 12 → d < 12 → e < 6 → f < 6 → IsRead (dims_said s) (range_text a b c d e f)
range_read s a b c d e f h i j k l m n =
    let r = in_range a b c d e f in
    let v = in_range_valid s a b c d e f h i j k l m n in
    record {
      request = r;
      is = ap (request_of (dims_said s)) (sym (in_range_is s a b c d e f h i j k l m n))
          ∙ range_is_read (dims_said s) r (pick_text true (branch s) (record { level = 0; first = min a b; last = max a b })) (pick_text true month (record { level = 0; first = min c d; last = max c d }) ∷ pick_text true grade (record { level = 0; first = min e f; last = max e f }) ∷ [])
          (dims_rules s h) (request_fits (dims_said s) r v) (record { plain = refl; picks = refl });
    }

below : (x k n : ℕ) → 1 ≤ n → drawn x k n < n
below x k n h = mod-lt (seed x k / 2 ^ 32) h

query_read : (x s kind : ℕ) → IsSize s → IsRead (dims_said s) (made_query x s kind)
query_read x s zero h =
    let a = drawn x 1 (5 * s) in
    let l = below x 1 (5 * s) (omega (arith, h)) in
    canonical s (by_month a) (made_query x s 0) h (by_month_is s a h l) (by_month_valid s a h l)
query_read x s (suc zero) h = canonical s by_quarter (made_query x s 1) h (by_quarter_text s) (by_quarter_valid s)
query_read x s (suc (suc zero)) h =
    range_read s (drawn x 1 (40 * s)) (drawn x 2 (40 * s)) (drawn x 3 12) (drawn x 4 12) (drawn x 5 6) (drawn x 6 6) h
    (below x 1 (40 * s) (omega (arith, h))) (below x 2 (40 * s) (omega (arith, h))) (below x 3 12 (omega arith)) (below x 4 12 (omega arith)) (below x 5 6 (omega arith)) (below x 6 6 (omega arith))
query_read x s (suc (suc (suc zero))) h =
    let a = drawn x 1 (5 * s) in
    let b = drawn x 2 12 in
    let c = drawn x 3 6 in
    let i = below x 1 (5 * s) (omega (arith, h)) in
    let j = below x 2 12 (omega arith) in
    let k = below x 3 6 (omega arith) in
    canonical s (in_cell a b c) (made_query x s 3) h (in_cell_is s a b c h i j k) (in_cell_valid s a b c h i j k)
query_read x s (suc (suc (suc (suc more)))) h =
    let a = drawn x 1 6 in
    let l = below x 1 6 (omega arith) in
    canonical s (of_grade a) (made_query x s (suc (suc (suc (suc more))))) h (of_grade_is s a l) (of_grade_valid s a l)

all_read : (x s n : ℕ) → IsSize s → (requests : List Request) × (map (request_of (dims_said s)) (queries_from x s n) ≡ map Ok requests)
all_read x s zero h = ([], refl)
all_read x s (suc n) h =
    let q = query_read (seed x 1) s (drawn x 1 5) h in
    let more = all_read (seed (seed x 1) (draws_of (drawn x 1 5))) s n h in
    (q.request ∷ more.0, ap₂ (λ y ys. y ∷ ys) q.is more.1)

pub queries_are_read : QueriesAreRead
unfolding made_queries
queries_are_read number s h = all_read (seed number (3 * (20000 * s))) s (200 * s) h
