-- The items of a transcript, one after another, and what their requests are.
use Rattle.std.specs.List.{flat_map}
use Rattle.std.specs.Str.{bytes_eq}
use Rattle.std.proofs.Common.{◌≡◌, ◌≢◌, refl, sym, ap, ◌∙◌, inl, inr, ℕ, ◌+◌, ◌<◌, ◌≤◌, Bool, true, false, cond, not, ◌&&◌, List, [], ◌∷◌, ◌++◌, length, take, drop, get_or, Some, None, Result, Ok, Err, arith, ltb, subst, length-append}
use Rattle.std.proofs.lemmas.List.{at_drop_more, at_drop_all, take_more, take_all}
use Rattle.std.proofs.lemmas.Bool.{false≢true}
use Rattle.std.proofs.lemmas.List.Concat.{flat_map-append}
use Rattle.std.proofs.lemmas.List.Elements.{filter-append}
use Rattle.cube_model.specs.declared.policy.Policy.{Policy}
use Rattle.cube_model.specs.declared.request.Request.{Request}
use Rattle.cube_model.specs.Cores.{Core, shown}
use Rattle.cube_model.specs.Cubes.{World, IsIn}
use Rattle.cube_model.specs.Dims.{Dims, IsDims}
use Rattle.cube_model.specs.Policies.{IsPolicy}
use Rattle.cube_model.specs.Requests.{answer, is_valid, is_there as is_there_in}
use Rattle.cube_model.specs.declared.request.What.{What}
use Rattle.cube_model.specs.declared.request.What.TheVariants.{Count, Measure}
use Rattle.cube_model.proofs.Members.{IsIn-flat_map, flat_map_has}
use Rattle.cube_query.specs.Canonical.{is_request, is_there}
use Rattle.cube_query.specs.Faults.{request_of}
use Rattle.cube_query.specs.declared.fault.RequestFault.{RequestFault}
use Rattle.cube_query.proofs.Valid.{read_is_valid}
use Rattle.cube_answers.specs.AnswerText.{answer_text}
use Rattle.cube_audit.specs.Audits.{is_examined, examined, is_body, is_exact, inexact_from, requests_in, asked_by}
use Rattle.cube_audit.specs.Sound.{AreExact}
use Rattle.cube_audit.specs.declared.transcript.TranscriptItem.{TranscriptItem}

-- ---- one item

pub unread : (s : Dims) (w : World) (i : TranscriptItem) → ((r : Request) → request_of s i.query ≢ Ok r) → is_exact s w i ≡ false
unread s w i none = go (request_of s i.query) none
  where
    go : (q : Result Request RequestFault) → ((r : Request) → q ≢ Ok r) → is_body s w i.body q ≡ false
    go (Ok r) h = absurd (h r refl)
    go (Err e) h = refl

pub read_as : (s : Dims) (w : World) (i : TranscriptItem) (r : Request) → request_of s i.query ≡ Ok r → is_exact s w i ≡ bytes_eq i.body (answer_text s r (answer w r))
read_as s w i r e = ap (is_body s w i.body) e

pub asked_none : (s : Dims) (i : TranscriptItem) → is_examined i ≡ false → asked_by s (i ∷ []) ≡ []
asked_none s i e = ap (λ b. flat_map (λ x. requests_in (request_of s x.query)) (cond b (i ∷ []) [])) e

pub asked_one : (s : Dims) (i : TranscriptItem) (r : Request) → is_examined i ≡ true → request_of s i.query ≡ Ok r → asked_by s (i ∷ []) ≡ r ∷ []
asked_one s i r e q = ap (λ b. flat_map (λ x. requests_in (request_of s x.query)) (cond b (i ∷ []) [])) e ∙ ap (λ x. requests_in x ++ []) q

-- ---- one item more

asked_split : (s : Dims) (is js : List TranscriptItem) → asked_by s (is ++ js) ≡ asked_by s is ++ asked_by s js
asked_split s is js = ap (flat_map (λ i. requests_in (request_of s i.query))) (filter-append is_examined is js) ∙ flat_map-append (λ i. requests_in (request_of s i.query)) (examined is) (examined js)

module _ (s : Dims) (items : List TranscriptItem) (k : ℕ) (i : TranscriptItem) (within : k < length items) (is : i ≡ get_or items k i) where
  pub asked_more : (made new : List Request) → made ≡ asked_by s (take k items) → new ≡ made ++ asked_by s (i ∷ []) → new ≡ asked_by s (take (k + 1) items)
  asked_more made new so_far grown =
      grown
      ∙ ap (λ rs. rs ++ asked_by s (i ∷ [])) so_far
      ∙ sym (asked_split s (take k items) (i ∷ []))
      ∙ ap (λ x. asked_by s (take k items ++ x ∷ [])) is
      ∙ ap (asked_by s) (sym (take_more items k i within))

  module _ (w : World) where
    here : inexact_from s w (k + 1) (drop k items) ≡ cond (is_examined i && not (is_exact s w i)) (Some (k + 1)) (inexact_from s w (k + 1 + 1) (drop (k + 1) items))
    here =
        at_drop_more (inexact_from s w (k + 1)) items k i within
        ∙ ap (λ x. cond (is_examined x && not (is_exact s w x)) (Some (k + 1)) (inexact_from s w (k + 1 + 1) (drop (k + 1) items))) (sym is)

    pub next_item : (is_examined i && not (is_exact s w i)) ≡ false → inexact_from s w (k + 1 + 1) (drop (k + 1) items) ≡ inexact_from s w (k + 1) (drop k items)
    next_item e = sym (here ∙ ap (λ b. cond b (Some (k + 1)) (inexact_from s w (k + 1 + 1) (drop (k + 1) items))) e)

    pub inexact_item : (is_examined i && not (is_exact s w i)) ≡ true → inexact_from s w (k + 1) (drop k items) ≡ Some (k + 1)
    inexact_item e = here ∙ ap (λ b. cond b (Some (k + 1)) (inexact_from s w (k + 1 + 1) (drop (k + 1) items))) e

pub all_items : (s : Dims) (w : World) (items : List TranscriptItem) (k : ℕ) → length items ≤ k → inexact_from s w (k + 1) (drop k items) ≡ None
all_items s w items k past = at_drop_all (inexact_from s w (k + 1)) items k past

pub asked_all : (s : Dims) (items : List TranscriptItem) (k : ℕ) → length items ≤ k → asked_by s (take k items) ≡ asked_by s items
asked_all s items k past = ap (asked_by s) (take_all k items past)

-- ---- all items

-- where no item is inexact, each that is examined is exact
pub exact_all : (s : Dims) (w : World) (k : ℕ) (items : List TranscriptItem) → inexact_from s w k items ≡ None → AreExact s w items
exact_all s w k [] e x h = absurd h
exact_all s w k (i ∷ is) e x h = go (is_examined i) (is_exact s w i) refl e (λ r. exact_all s w (k + 1) is r x) h
  where
    go : (a b : Bool) → is_exact s w i ≡ b → cond (a && not b) (Some k) (inexact_from s w (k + 1) is) ≡ None → (inexact_from s w (k + 1) is ≡ None → IsIn x (examined is) → is_exact s w x ≡ true)
        → IsIn x (cond a (i ∷ examined is) (examined is)) → is_exact s w x ≡ true
    go true true eb e again (inl ix) = ap (is_exact s w) (sym ix) ∙ eb
    go true true eb e again (inr h) = again e h
    go true false eb e again h = absurd (cc)
    go false b eb e again h = again e h

one_each : (s : Dims) (w : World) (i : TranscriptItem) → is_exact s w i ≡ true → length (requests_in (request_of s i.query)) ≡ 1
one_each s w i e = go (request_of s i.query) e
  where
    go : (q : Result Request RequestFault) → is_body s w i.body q ≡ true → length (requests_in q) ≡ 1
    go (Ok r) e = refl
    go (Err f) e = absurd (false≢true e)

-- as many requests as items that are examined
pub as_many : (s : Dims) (w : World) (items : List TranscriptItem) → AreExact s w items → length (asked_by s items) ≡ length (examined items)
as_many s w items exact = go (examined items) exact
  where
    go : (is : List TranscriptItem) → ((i : TranscriptItem) → IsIn i is → is_exact s w i ≡ true) → length (flat_map (λ i. requests_in (request_of s i.query)) is) ≡ length is
    go [] h = refl
    go (i ∷ is) h =
        let one = one_each s w i (h i (inl refl)) in
        let more = go is (λ j k. h j (inr k)) in
        let long = length-append (requests_in (request_of s i.query)) (flat_map (λ j. requests_in (request_of s j.query)) is) in
        omega (arith, one, more, long)

-- ---- requests that are read

valid_under : (c : Core) (p : Policy) (r : Request) → IsPolicy c.dims p → is_request c.dims r ≡ true → is_valid (shown c p) r ≡ true
unfolding is_request is_valid
valid_under c p r policy valid = rw (there r.what) valid
  where
    there : (what : What) → is_there_in (shown c p) what ≡ is_there c.dims what
    there Count = refl
    there (Measure m) = ap (ltb m) policy.methods

-- each request that is examined is valid
pub asked_valid : (c : Core) (p : Policy) (items : List TranscriptItem) (r : Request) → IsDims c.dims → IsPolicy c.dims p → IsIn r (asked_by c.dims items) → is_valid (shown c p) r ≡ true
asked_valid c p items r dims policy h =
    let at = IsIn-flat_map (λ i. requests_in (request_of c.dims i.query)) r (examined items) h in
    go (request_of c.dims at.0.query) at.0.query refl at.2
  where
    go : (q : Result Request RequestFault) (text : List ℕ) → request_of c.dims text ≡ q → IsIn r (requests_in q) → is_valid (shown c p) r ≡ true
    go (Ok x) text e (inl xr) = valid_under c p r policy (read_is_valid c.dims text r dims (e ∙ ap Ok xr))
    go (Ok x) text e (inr k) = absurd k
    go (Err f) text e k = absurd k

-- where the requests have the same answers, the items are exact in the other world too
pub exact_too : (s : Dims) (w v : World) (items : List TranscriptItem) → AreExact s w items → ((r : Request) → IsIn r (asked_by s items) → answer v r ≡ answer w r) → AreExact s v items
exact_too s w v items exact same i h = go (request_of s i.query) refl (exact i h)
  where
    go : (q : Result Request RequestFault) → request_of s i.query ≡ q → is_body s w i.body q ≡ true → is_body s v i.body q ≡ true
    go (Ok r) e x =
        let there : IsIn r (requests_in (request_of s i.query)) = subst (λ o. IsIn r (requests_in o)) (sym e) (inl refl) in
        ap (λ a. bytes_eq i.body (answer_text s r a)) (same r (flat_map_has (λ j. requests_in (request_of s j.query)) i r (examined items) h there)) ∙ x
    go (Err f) e x = absurd (false≢true x)
