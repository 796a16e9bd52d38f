-- The text of a place has no line feed, and tells the place.
use Rattle.std.specs.List.{list_all, AllByRecursion}
use Rattle.std.specs.Prelude.{codes, Option, Some, None, slice_index_or}
use Rattle.std.proofs.Common.{◌≡◌, ℕ, ◌<◌, ◌≤◌, Bool, true, false, cond, not, ◌&&◌, ◌||◌, List, [], ◌∷◌, ◌++◌, length, map, get_or, Result, Ok, Err, refl, sym, ap, ap₂, ◌∙◌, subst, arith, eqb, leb, ltb, append-nil, append_assoc, suc}
use Rattle.std.proofs.lemmas.Bool.{and_from, eq-eqb, lt-ltb, le-leb, ltb-true}
use Rattle.cube_model.specs.declared.request.Pick.{Pick}
use Rattle.cube_model.specs.declared.request.Request.{Request}
use Rattle.cube_model.specs.declared.request.What.TheVariants.{Count}
use Rattle.cube_model.specs.Cores.{Core, IsCore}
use Rattle.cube_model.specs.Cubes.{ancestors, core, key_at, same, up, Each, IsPoint}
use Rattle.cube_model.specs.Dims.{Dims, NamedDimension, plain, plains, members, IsDimension, IsDims}
use Rattle.cube_model.specs.Requests.{fits, is_grouped, is_level, is_one}
use Rattle.cube_model.proofs.Members.{same_refl}
use Rattle.cube_model.proofs.Sources.{Each-get_or}
use Rattle.cube_core.proofs.Points.{up_there}
use Rattle.cube_query.specs.declared.fault.RequestFault.{RequestFault}
use Rattle.cube_query.specs.Canonical.{behind, is_request, is_there, level_text, member_text, pick_text, pick_texts, request_text}
use Rattle.cube_query.specs.Faults.{request_of}
use Rattle.cube_query.proofs.Back.{reads_back}
use Rattle.cube_query.proofs.Says.{clean}
use Rattle.cube_source.specs.Blocks.{bare}
use Rattle.cube_source.proofs.Uncut.{alone}
use Rattle.cube_answers.specs.VerdictText.{key_texts}
use Rattle.cube_reason.specs.ReasonText.{place_words}
use Rattle.cube_reason.proofs.Feeds.{Lacks, lacks_more, lacks_by, printed_lacks, behind_lacks}

abbrev zeros : List NamedDimension → List ℕ
zeros ds = map (λ d. 0) (map plain ds)

-- the leaves of a point
abbrev leaves : List NamedDimension → List ℕ → List ℕ
leaves ds xs = ancestors (map plain ds) (zeros ds) xs

-- ---- no line feed

words_by : (t : Bool) (P : List ℕ → Type 0) (x : List ℕ) (xs : List (List ℕ)) → P x → Each P xs → Each P (cond t (x ∷ []) [] ++ xs)
words_by true P x xs p ps = (p, ps)
words_by false P x xs p ps = ps

words_lack : (ds : List NamedDimension) (xs : List ℕ) → AllByRecursion IsDimension ds → IsPoint (map plain ds) xs → Each (Lacks 10) (key_texts ds (zeros ds) (leaves ds xs))
words_lack [] xs h p = tt
words_lack (d ∷ ds) [] h p = absurd p
words_lack (d ∷ ds) (x ∷ xs) h p =
    let c = clean d h.0 in
    let some = h.0.has_levels in
    let low : 0 < length d.levels = omega (arith, some) in
    let there : up (plain d) 0 x < length (members d 0) = up_there d 0 x h.0 low p.0 in
    words_by (ltb 0 (length d.levels)) (Lacks 10) (level_text d 0 ++ 61 ∷ member_text d 0 (up (plain d) 0 x)) (key_texts ds (zeros ds) (leaves ds xs))
    (lacks_more 10 (level_text d 0) (61 ∷ member_text d 0 (up (plain d) 0 x))
    (lacks_more 10 (Rattle.cube_text.specs.Quoting.printed d.name) (46 ∷ Rattle.cube_text.specs.Quoting.printed (slice_index_or d.levels 0 [])) (printed_lacks d.name c.name) ((λ is. absurd (omega (arith, is))), printed_lacks (slice_index_or d.levels 0 []) (c.levels 0 low)))
    ((λ is. absurd (omega (arith, is))), printed_lacks (slice_index_or (members d 0) (up (plain d) 0 x) []) (c.members 0 (up (plain d) 0 x) low there)))
    (words_lack ds xs h.1 p.1)

-- what stands between the brackets
abbrev pub inside : Core → ℕ → List ℕ
inside c i = cond (is_grouped (plains c.dims) (core (bare c))) (behind [] (key_texts c.dims.dimensions (core (bare c)) (key_at (bare c) (core (bare c)) i))) (codes "all")

pub words_inside : (c : Core) (i : ℕ) → place_words c.dims (bare c) i ≡ (40 ∷ inside c i) ++ 41 ∷ []
words_inside c i = refl

point_there : (c : Core) (i : ℕ) → IsCore c → i < length c.shape.points → IsPoint (plains c.dims) (get_or c.shape.points i [])
point_there c i ok l = Each-get_or (IsPoint (plains c.dims)) c.shape.points i [] ok.points l

inside_lacks : (c : Core) (i : ℕ) → IsCore c → i < length c.shape.points → Lacks 10 (inside c i)
unfolding key_at
inside_lacks c i ok l = go (is_grouped (plains c.dims) (core (bare c))) (words_lack c.dims.dimensions (get_or c.shape.points i []) ok.dims.each_dimension (point_there c i ok l))
  where
    go : (t : Bool) → Each (Lacks 10) (key_texts c.dims.dimensions (core (bare c)) (key_at (bare c) (core (bare c)) i)) → Lacks 10 (cond t (behind [] (key_texts c.dims.dimensions (core (bare c)) (key_at (bare c) (core (bare c)) i))) (codes "all"))
    go true each = behind_lacks [] (key_texts c.dims.dimensions (core (bare c)) (key_at (bare c) (core (bare c)) i)) tt each
    go false each = lacks_by 10 (codes "all") refl

pub place_lacks : (c : Core) (i : ℕ) → IsCore c → i < length c.shape.points → Lacks 10 (place_words c.dims (bare c) i)
place_lacks c i ok l = subst (Lacks 10) (sym (words_inside c i)) (lacks_more 10 (40 ∷ inside c i) (41 ∷ []) ((λ is. absurd (omega (arith, is))), inside_lacks c i ok l) ((λ is. absurd (omega (arith, is))), tt))

-- ---- a place as the picks of a query, which reads back

abbrev one_of : ℕ → Option Pick
one_of x = Some (record { level = 0; first = x; last = x })

abbrev asked : Dims → List ℕ → Request
asked s key = record { what = Count; group = map (λ d. length d.levels) s.dimensions; picks = map one_of key }

named_all : (d : NamedDimension) → IsDimension d → ltb 0 (length d.levels) ≡ true
named_all d h = lt-ltb 0 (length d.levels) (let some = h.has_levels in omega (arith, some))

texts_same : (ds : List NamedDimension) (xs : List ℕ) → AllByRecursion IsDimension ds → length xs ≡ length ds → key_texts ds (zeros ds) xs ≡ pick_texts false ds (map one_of xs)
texts_same [] [] h e = refl
texts_same [] (x ∷ xs) h e = refl
texts_same (d ∷ ds) [] h e = absurd (omega (arith, e))
texts_same (d ∷ ds) (x ∷ xs) h e =
    ap₂ (λ (b : Bool) (more : List (List ℕ)). cond b ((level_text d 0 ++ 61 ∷ member_text d 0 x) ∷ []) [] ++ more) (named_all d h.0) (texts_same ds xs h.1 (omega (arith, e)))
    ∙ ap (λ (t : List ℕ). t ∷ pick_texts false ds (map one_of xs)) (sym (append-nil (level_text d 0 ++ 61 ∷ member_text d 0 x)))

ungrouped : (ds : List NamedDimension) → is_grouped (map plain ds) (map (λ d. length d.levels) ds) ≡ false
ungrouped [] = refl
ungrouped (d ∷ ds) = ap₂ (λ a b. a || b) (never (length d.levels)) (ungrouped ds)
  where
    never : (n : ℕ) → ltb n n ≡ false
    never n = go (ltb n n) refl
      where
        go : (t : Bool) → ltb n n ≡ t → t ≡ false
        go true e = let l = ltb-true n n e in absurd (omega (arith, l))
        go false e = refl

all_one : (xs : List ℕ) → list_all is_one (map one_of xs) ≡ true
all_one [] = refl
all_one (x ∷ xs) = and_from (eqb x x) (list_all is_one (map one_of xs)) (eq-eqb x x refl) (all_one xs)

one_level : (d : NamedDimension) (x : ℕ) → 0 < length d.levels → x < length (members d 0) → is_level (plain d) (one_of x) (length d.levels) ≡ true
one_level d x low there =
    and_from (leb (length d.levels) (length d.levels) && ltb 0 (length d.levels) && leb x x) (ltb x (length (members d 0)))
    (and_from (leb (length d.levels) (length d.levels) && ltb 0 (length d.levels)) (leb x x)
    (and_from (leb (length d.levels) (length d.levels)) (ltb 0 (length d.levels)) (le-leb (length d.levels) (length d.levels) (omega arith)) (lt-ltb 0 (length d.levels) low))
    (le-leb x x (omega arith)))
    (lt-ltb x (length (members d 0)) there)

all_fit : (ds : List NamedDimension) (xs : List ℕ) → AllByRecursion IsDimension ds → IsPoint (map plain ds) xs → fits (map plain ds) (map (λ d. length d.levels) ds) (map one_of (leaves ds xs)) ≡ true
all_fit [] [] h p = refl
all_fit [] (x ∷ xs) h p = absurd p
all_fit (d ∷ ds) [] h p = absurd p
all_fit (d ∷ ds) (x ∷ xs) h p =
    let some = h.0.has_levels in
    let low : 0 < length d.levels = omega (arith, some) in
    and_from (is_level (plain d) (one_of (up (plain d) 0 x)) (length d.levels)) (fits (map plain ds) (map (λ d. length d.levels) ds) (map one_of (leaves ds xs)))
    (one_level d (up (plain d) 0 x) low (up_there d 0 x h.0 low p.0)) (all_fit ds xs h.1 p.1)

asked_valid : (s : Dims) (xs : List ℕ) → IsDims s → IsPoint (plains s) xs → is_request s (asked s (leaves s.dimensions xs)) ≡ true
unfolding is_request
asked_valid s xs h p =
    and_from (fits (plains s) (asked s (leaves s.dimensions xs)).group (asked s (leaves s.dimensions xs)).picks && true) (not (is_grouped (plains s) (asked s (leaves s.dimensions xs)).group) || list_all is_one (asked s (leaves s.dimensions xs)).picks)
    (and_from (fits (plains s) (asked s (leaves s.dimensions xs)).group (asked s (leaves s.dimensions xs)).picks) true (all_fit s.dimensions xs h.each_dimension p) refl)
    (ap (λ b. not b || list_all is_one (asked s (leaves s.dimensions xs)).picks) (ungrouped s.dimensions))

asked_text : (s : Dims) (key : List ℕ) → request_text s (asked s key) ≡ codes "cell count" ++ behind (codes " ") (pick_texts false s.dimensions (map one_of key))
unfolding request_text
asked_text s key =
    ap₂ (λ (a b : Bool). cond a (codes "slice " ++ codes "count" ++ behind (codes " by ") (Rattle.cube_query.specs.Canonical.by_texts s.dimensions (asked s key).group) ++ behind (codes " where ") (pick_texts false s.dimensions (asked s key).picks))
    (cond b (codes "cell " ++ codes "count" ++ behind (codes " ") (pick_texts false s.dimensions (asked s key).picks)) (codes "range " ++ codes "count" ++ behind (codes " ") (pick_texts true s.dimensions (asked s key).picks))))
    (ungrouped s.dimensions) (all_one key)

-- ---- the place that a text tells

front_more : (w p q x y : List ℕ) → p ++ q ≡ x ++ y → (w ++ p) ++ q ≡ (w ++ x) ++ y
front_more w p q x y e = append_assoc w p q ∙ ap (λ (t : List ℕ). w ++ t) e ∙ sym (append_assoc w x y)

same_behind : (w : List ℕ) (ds : List NamedDimension) (xs ys : List ℕ) → length xs ≡ length ds → length ys ≡ length ds → 1 ≤ length ds
    → behind [] (pick_texts false ds (map one_of xs)) ≡ behind [] (pick_texts false ds (map one_of ys)) → behind w (pick_texts false ds (map one_of xs)) ≡ behind w (pick_texts false ds (map one_of ys))
same_behind w [] xs ys e f some is = absurd (omega (arith, some))
same_behind w (d ∷ ds) [] ys e f some is = absurd (omega (arith, e))
same_behind w (d ∷ ds) (x ∷ xs) [] e f some is = absurd (omega (arith, f))
same_behind w (d ∷ ds) (x ∷ xs) (y ∷ ys) e f some is = front_more w (pick_text false d (record { level = 0; first = x; last = x })) (behind (codes ", ") (pick_texts false ds (map one_of xs))) (pick_text false d (record { level = 0; first = y; last = y })) (behind (codes ", ") (pick_texts false ds (map one_of ys))) is

picks_in : Result Request RequestFault → List (Option Pick)
picks_in (Ok r) = r.picks
picks_in (Err e) = []

first_of : Option Pick → ℕ
first_of None = 0
first_of (Some p) = p.first

firsts : (xs : List ℕ) → map first_of (map one_of xs) ≡ xs
unfolding first_of
firsts [] = refl
firsts (x ∷ xs) = ap (λ (ys : List ℕ). x ∷ ys) (firsts xs)

leaves_long : (ds : List NamedDimension) (xs : List ℕ) → IsPoint (map plain ds) xs → length (leaves ds xs) ≡ length ds
leaves_long [] [] p = refl
leaves_long [] (x ∷ xs) p = absurd p
leaves_long (d ∷ ds) [] p = absurd p
leaves_long (d ∷ ds) (x ∷ xs) p = ap (λ n. suc n) (leaves_long ds xs p.1)

-- two points of which the same is written have the same leaves
leaves_told : (s : Dims) (xs ys : List ℕ) → IsDims s → IsPoint (plains s) xs → IsPoint (plains s) ys
    → behind [] (key_texts s.dimensions (zeros s.dimensions) (leaves s.dimensions xs)) ≡ behind [] (key_texts s.dimensions (zeros s.dimensions) (leaves s.dimensions ys)) → leaves s.dimensions xs ≡ leaves s.dimensions ys
unfolding picks_in
leaves_told s xs ys h p q e =
    let a = leaves s.dimensions xs in
    let b = leaves s.dimensions ys in
    let la = leaves_long s.dimensions xs p in
    let lb = leaves_long s.dimensions ys q in
    let picked : behind [] (pick_texts false s.dimensions (map one_of a)) ≡ behind [] (pick_texts false s.dimensions (map one_of b)) = sym (ap (behind []) (texts_same s.dimensions a h.each_dimension la)) ∙ e ∙ ap (behind []) (texts_same s.dimensions b h.each_dimension lb) in
    let text : request_text s (asked s a) ≡ request_text s (asked s b) = asked_text s a ∙ ap (λ (t : List ℕ). codes "cell count" ++ t) (same_behind (codes " ") s.dimensions a b la lb h.has_dimensions picked) ∙ sym (asked_text s b) in
    let read : request_of s (request_text s (asked s a)) ≡ request_of s (request_text s (asked s b)) = ap (request_of s) text in
    let both : map one_of a ≡ map one_of b = ap picks_in (sym (reads_back s (asked s a) h (asked_valid s xs h p)) ∙ read ∙ reads_back s (asked s b) h (asked_valid s ys h q)) in
    sym (firsts a) ∙ ap (map first_of) both ∙ firsts b

grouped : (ds : List NamedDimension) → AllByRecursion IsDimension ds → 1 ≤ length ds → is_grouped (map plain ds) (zeros ds) ≡ true
grouped [] h some = absurd (omega (arith, some))
grouped (d ∷ ds) h some = ap (λ (b : Bool). b || is_grouped (map plain ds) (zeros ds)) (named_all d h.0)

pub place_told : (c : Core) (i k : ℕ) → IsCore c → i < length c.shape.points → k < length c.shape.points → inside c i ≡ inside c k → i ≡ k
unfolding key_at
place_told c i k ok a b e =
    let g = grouped c.dims.dimensions ok.dims.each_dimension ok.dims.has_dimensions in
    let words : (j : ℕ) → inside c j ≡ behind [] (key_texts c.dims.dimensions (zeros c.dims.dimensions) (leaves c.dims.dimensions (get_or c.shape.points j []))) = λ j. ap (λ (t : Bool). cond t (behind [] (key_texts c.dims.dimensions (core (bare c)) (key_at (bare c) (core (bare c)) j))) (codes "all")) g in
    let same_leaves : leaves c.dims.dimensions (get_or c.shape.points i []) ≡ leaves c.dims.dimensions (get_or c.shape.points k []) = leaves_told c.dims (get_or c.shape.points i []) (get_or c.shape.points k []) ok.dims (point_there c i ok a) (point_there c k ok b) (sym (words i) ∙ e ∙ words k) in
    alone c k i ok b a (ap (λ (x : List ℕ). same x (key_at (bare c) (core (bare c)) k)) same_leaves ∙ same_refl (key_at (bare c) (core (bare c)) k))
