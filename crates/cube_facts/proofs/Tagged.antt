-- Tags of names, and what two names with one tag have to do with each other.
use Rattle.std.proofs.Common.{◌≡◌, ◌≢◌, eqb, eqb-true, eq-eqb, length-append, ◌<◌, ◌≤◌, ℕ, zero, suc, ◌+◌, ◌-◌, ◌*◌, ◌^◌, List, [], ◌∷◌, ◌++◌, length, get_or, drop, Some, refl, sym, ap, ap₂, subst, ◌∙◌, arith, leb}
use Rattle.std.proofs.Math.Nat.{pow-succ', pow-le-pow_right}
use Rattle.std.proofs.lemmas.List.{drop_more, length-drop, get_or_append_left, get_or_default}
use Rattle.std.proofs.Math.Seq.{get_or-append_seam}
use Rattle.std.proofs.lemmas.Bool.{false≢true}
use Rattle.cube_model.proofs.Members.{tested}
use Rattle.cube_model.specs.Cubes.{distinct, names_at}
use Rattle.cube_model.specs.Dims.{NamedDimension, plain, IsDimension}
use Rattle.cube_facts.specs.FactFile.{leaf_of}
use Rattle.cube_facts.proofs.Recent.{found_there}
use Rattle.cube_facts.specs.Tags.{number_of, tag_of, AreBytes, HasTags}

bytes_behind : (b : ℕ) (bs : List ℕ) → AreBytes (b ∷ bs) → AreBytes bs
bytes_behind b bs h i = h (suc i)

bytes_drop : (n : ℕ) (bs : List ℕ) → AreBytes bs → AreBytes (drop n bs)
bytes_drop zero bs h = h
bytes_drop (suc n) [] h = h
bytes_drop (suc n) (b ∷ bs) h = bytes_drop n bs (bytes_behind b bs h)

number_small : (bs : List ℕ) → AreBytes bs → number_of bs + 2 ≤ 2 * 256 ^ length bs
number_small [] h = omega arith
number_small (b ∷ bs) h =
    let small = number_small bs (bytes_behind b bs h) in
    let front : b < 256 = h 0 in
    let power = pow-succ' 256 (length bs) in
    rw power (omega (arith, small, front))

-- the number of few bytes leaves room for one more
pub number_fits : (bs : List ℕ) → AreBytes bs → length bs ≤ 6 → number_of bs ≤ 562949953421312
number_fits bs h few =
    let small = number_small bs h in
    let e : 256 ^ length bs ≤ 256 ^ 6 = pow-le-pow_right (omega arith) few in
    omega (arith, small, e)

pub behind_fits : (name : List ℕ) (n : ℕ) → AreBytes name → n < length name → length name ≤ 7 → number_of (drop (length name - n) name) ≤ 562949953421312
behind_fits name n h l few = number_fits (drop (length name - n) name) (bytes_drop (length name - n) name h) (omega (arith, length-drop (length name - n) name, l, few))

-- one byte more, from the end on
pub number_more : (name : List ℕ) (n : ℕ) → n < length name → number_of (drop (length name - (n + 1)) name) ≡ get_or name (length name - 1 - n) 0 + 1 + 256 * number_of (drop (length name - n) name)
number_more name n l =
    let i = length name - (n + 1) in
    let at : length name - 1 - n ≡ i = omega arith in
    let next : i + 1 ≡ length name - n = omega (arith, l) in
    let below : i < length name = omega (arith, l) in
    ap number_of (drop_more name i 0 below) ∙ ap₂ (λ (j m : ℕ). get_or name j 0 + 1 + 256 * number_of (drop m name)) (sym at) next

-- ---- one tag, one name

same_front : (b c x y : ℕ) → b < 256 → c < 256 → b + 1 + 256 * x ≡ c + 1 + 256 * y → (b ≡ c) × (x ≡ y)
same_front b c x y l m e = (omega (arith, l, m, e), omega (arith, l, m, e))

same_number : (xs ys : List ℕ) → AreBytes xs → AreBytes ys → number_of xs ≡ number_of ys → xs ≡ ys
same_number [] [] h k e = refl
same_number [] (y ∷ ys) h k e = absurd (omega (arith, e))
same_number (x ∷ xs) [] h k e = absurd (omega (arith, e))
same_number (x ∷ xs) (y ∷ ys) h k e =
    let parts = same_front x y (number_of xs) (number_of ys) (h 0) (k 0) e in
    ap₂ (λ b bs. b ∷ bs) parts.0 (same_number xs ys (bytes_behind x xs h) (bytes_behind y ys k) parts.1)

tag_short : (name : List ℕ) → 0 < tag_of name → tag_of name ≡ number_of name
tag_short name some = tested (leb (length name) 7)
    (λ y. rw y refl)
    (λ n. (let none : 0 < 0 = rw n at some in absurd (omega (arith, none))))

pub same_tag : (xs ys : List ℕ) → AreBytes xs → AreBytes ys → 0 < tag_of xs → tag_of ys ≡ tag_of xs → xs ≡ ys
same_tag xs ys h k some e = same_number xs ys h k (sym (tag_short xs some) ∙ sym e ∙ tag_short ys (subst (λ (n : ℕ). 0 < n) (sym e) some))

-- the tag of one leaf more
pub tags_more : (d : NamedDimension) (tags : List ℕ) (t : ℕ) → HasTags d tags → ((name : List ℕ) → AreBytes name → 0 < tag_of name → t ≡ tag_of name → leaf_of d name ≡ Some (length tags)) → HasTags d (tags ++ t ∷ [])
tags_more d tags t h one k name l bytes some e = tested (eqb k (length tags))
    (λ y. (
    let same = eqb-true k (length tags) y in
    let last : get_or (tags ++ t ∷ []) k 0 ≡ t = ap (λ (j : ℕ). get_or (tags ++ t ∷ []) j 0) same ∙ get_or-append_seam tags t [] 0 in
    one name bytes some (sym last ∙ e) ∙ ap (λ (j : ℕ). Some j) (sym same)))
    (λ n. (
    let apart : k ≢ length tags = λ q. false≢true (sym n ∙ eq-eqb k (length tags) q) in
    let long = length-append tags (t ∷ []) in
    let below : k < length tags = omega (arith, l, long, apart) in
    h k name below bytes some (sym (get_or_append_left tags (t ∷ []) 0 k below) ∙ e)))

-- a leaf's name is the only one with its tag
pub tag_tells : (d : NamedDimension) (k : ℕ) (own : List ℕ) → IsDimension d → AreBytes own → k < length (distinct (names_at (plain d) 0)) → get_or (distinct (names_at (plain d) 0)) k [] ≡ own
    → (name : List ℕ) → AreBytes name → 0 < tag_of name → tag_of own ≡ tag_of name → leaf_of d name ≡ Some k
tag_tells d k own rules bytes l at name named some e = found_there d k name rules l (at ∙ sym (same_tag name own named bytes some e))

-- the tags of one dimension more
pub dimension_more : (ds : List NamedDimension) (tags : List (List ℕ)) (d : NamedDimension) (t : List ℕ) → length tags < length ds → d ≡ get_or ds (length tags) d → HasTags d t
    → ((i : ℕ) (e : NamedDimension) → i < length tags → HasTags (get_or ds i e) (get_or tags i [])) → (i : ℕ) (e : NamedDimension) → i < length (tags ++ t ∷ []) → HasTags (get_or ds i e) (get_or (tags ++ t ∷ []) i [])
dimension_more ds tags d t l at own each i e below = tested (eqb i (length tags))
    (λ y. (
    let same = eqb-true i (length tags) y in
    let here : d ≡ get_or ds i e = at ∙ get_or_default ds (length tags) d e l ∙ ap (λ (j : ℕ). get_or ds j e) (sym same) in
    let last : t ≡ get_or (tags ++ t ∷ []) i [] = sym (get_or-append_seam tags t [] []) ∙ ap (λ (j : ℕ). get_or (tags ++ t ∷ []) j []) (sym same) in
    subst (HasTags (get_or ds i e)) last (subst (λ (g : NamedDimension). HasTags g t) here own)))
    (λ n. (
    let apart : i ≢ length tags = λ q. false≢true (sym n ∙ eq-eqb i (length tags) q) in
    let long = length-append tags (t ∷ []) in
    let within : i < length tags = omega (arith, below, long, apart) in
    subst (HasTags (get_or ds i e)) (sym (get_or_append_left tags (t ∷ []) [] i within)) (each i e within)))
