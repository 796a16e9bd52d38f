-- The canonical text of a request is a query text, and what that query says.
use Rattle.std.proofs.Common.{◌≡◌, ℕ, zero, suc, ◌<◌, Bool, true, false, ltb, leb, eqb, eqb-true, List, [], ◌∷◌, ◌++◌, length, map, filter, refl, sym, ap, subst, ◌∙◌, arith, append_assoc, append-nil}
use Rattle.std.specs.Prelude.{Option, Some, None, codes, not, ◌&&◌, slice_index_or, if◌then◌else◌, nat_lt}
use Rattle.std.specs.List.{list_all, list_any, AllByRecursion}
use Rattle.std.specs.Str.{bytes_eq, is_utf8}
use Rattle.std.proofs.lemmas.Bool.{false≢true, and_parts, ltb-true}
use Rattle.cube_model.specs.Cubes.{IsIn, distinct, names_at, same}
use Rattle.cube_model.proofs.Members.{tested}
use Rattle.cube_model.specs.Names.{is_control, begins_with_mark, is_name, is_level_name, is_measure_name}
use Rattle.cube_model.specs.Dims.{Dims, NamedDimension, plain, plains, members, measure_at, IsDimension}
use Rattle.cube_model.specs.Requests.{is_grouped, is_one}
use Rattle.cube_model.specs.declared.request.Request.{Request}
use Rattle.cube_model.specs.declared.request.What.{What}
use Rattle.cube_model.specs.declared.request.What.TheVariants.{Count, Measure}
use Rattle.cube_model.specs.declared.request.Pick.{Pick}
use Rattle.cube_text.specs.Quoting.{is_bare, printed}
use Rattle.cube_query.specs.declared.query.LevelName.{LevelName}
use Rattle.cube_query.specs.declared.query.PickName.{PickName}
use Rattle.cube_query.specs.declared.query.Query.{Query}
use Rattle.cube_query.specs.Grammar.{Part, nothing, ◌>>=◌, either, word, ws, sp, items, perhaps, name, level, fix, span, cell, slice, range, query, queries}
use Rattle.cube_query.specs.Grammar.Reading.{Reads}
use Rattle.cube_query.specs.Canonical.{behind, what_text, level_text, pick_text, by_texts, pick_texts, PicksFit, request_text}
use Rattle.cube_query.proofs.Parts.{whole_has, level_part, fix_part, span_part}
use Rattle.cube_query.proofs.Lists.{comma_eats}
use Rattle.cube_query.proofs.Prints.{Keeps}
use Rattle.cube_query.proofs.Printed.{HasReading, has_as, has_bind, has_nothing, Any, has_word, has_left, has_right, has_gap, has_no_blank, has_name, Names, LevelNames, PickNames, has_level, has_fix, has_span, option_texts, AreItems, AllRead, items_read, no_items}

-- ---- names without control bytes

abbrev pub Plain : List ℕ → Type 0
Plain x = list_any is_control x ≡ false

not_false : (b : Bool) → not b ≡ true → b ≡ false
not_false true e = sym e
not_false false e = refl

pub name_plain : (x : List ℕ) → is_name x ≡ true → Plain x
unfolding is_name
name_plain x e =
    let a = (and_parts (is_utf8 x && leb 1 (length x) && leb (length x) 128 && not (list_any is_control x)) (not (begins_with_mark x)) e).0 in
    not_false (list_any is_control x) (and_parts (is_utf8 x && leb 1 (length x) && leb (length x) 128) (not (list_any is_control x)) a).1

all_at : (p : List ℕ → Bool) (xs : List (List ℕ)) (k : ℕ) → list_all p xs ≡ true → k < length xs → p (slice_index_or xs k []) ≡ true
all_at p [] k e l = absurd (omega (arith, l))
all_at p (x ∷ xs) zero e l = (and_parts (p x) (list_all p xs) e).0
all_at p (x ∷ xs) (suc k) e l = all_at p xs k (and_parts (p x) (list_all p xs) e).1 (omega (arith, l))

all_filter : (p q : List ℕ → Bool) (xs : List (List ℕ)) → list_all p xs ≡ true → list_all p (filter q xs) ≡ true
all_filter p q [] e = refl
all_filter p q (x ∷ xs) e = let a = and_parts (p x) (list_all p xs) e in let i = all_filter p q xs a.1 in tested (q x) (λ t. rw (t, a.0, i) refl) (λ t. rw t i)

all_distinct : (p : List ℕ → Bool) (xs : List (List ℕ)) → list_all p xs ≡ true → list_all p (distinct xs) ≡ true
all_distinct p [] e = refl
all_distinct p (x ∷ xs) e = let a = and_parts (p x) (list_all p xs) e in rw (a.0, all_filter p (λ y. not (same x y)) (distinct xs) (all_distinct p xs a.1)) refl

members_named : (paths : List (List (List ℕ))) (n l : ℕ) → l < n → list_all (λ path. eqb (length path) n) paths ≡ true → list_all (λ path. list_all is_name path) paths ≡ true → list_all is_name (map (λ path. slice_index_or path l []) paths) ≡ true
members_named [] n l w e f = refl
members_named (path ∷ paths) n l w e f =
    let a = and_parts (eqb (length path) n) (list_all (λ path. eqb (length path) n) paths) e in
    let b = and_parts (list_all is_name path) (list_all (λ path. list_all is_name path) paths) f in
    rw (all_at is_name path l b.0 (omega (arith, w, eqb-true (length path) n a.0)), members_named paths n l w a.1 b.1) refl

-- the names of a dimension have no control bytes
pub record Clean (d : NamedDimension) : Type 0 where
  pub name : Plain d.name
  pub levels : (l : ℕ) → l < length d.levels → Plain (slice_index_or d.levels l [])
  pub members : (l x : ℕ) → l < length d.levels → x < length (members d l) → Plain (slice_index_or (members d l) x [])

level_named : (x : List ℕ) → is_level_name x ≡ true → is_name x ≡ true
unfolding is_level_name
level_named x e = (and_parts (is_name x) (not (bytes_eq x (codes "all"))) e).0

pub measure_named : (x : List ℕ) → is_measure_name x ≡ true → (is_name x ≡ true) × (bytes_eq x (codes "count") ≡ false)
unfolding is_measure_name
measure_named x e = let a = and_parts (is_name x) (not (bytes_eq x (codes "count"))) e in (a.0, not_false (bytes_eq x (codes "count")) a.1)

pub clean : (d : NamedDimension) → IsDimension d → Clean d
clean d h = record {
  name = name_plain d.name h.name;
  levels = λ l w. name_plain (slice_index_or d.levels l []) (level_named (slice_index_or d.levels l []) (all_at is_level_name d.levels l h.level_names w));
  members = λ l x w v. name_plain (slice_index_or (members d l) x []) (all_at is_name (members d l) x (all_distinct is_name (names_at (plain d) l) (members_named d.paths (length d.levels) l w h.even h.member_names)) v);
}

-- ---- what is said of each dimension

abbrev pub LevelSays : NamedDimension → ℕ → LevelName → Type 0
LevelSays d l x = LevelNames d.name (slice_index_or d.levels l []) x

abbrev pub PickSays : NamedDimension → Pick → PickName → Type 0
PickSays d p x = PickNames d.name (slice_index_or d.levels p.level []) (slice_index_or (members d p.level) p.first []) (slice_index_or (members d p.level) p.last []) x

abbrev pub level_option : NamedDimension → ℕ → Option ℕ
level_option d l = if nat_lt l (length d.levels) then Some l else None

abbrev pub level_options : List NamedDimension → List ℕ → List (Option ℕ)
level_options [] ls = []
level_options (d ∷ ds) [] = []
level_options (d ∷ ds) (l ∷ ls) = level_option d l ∷ level_options ds ls

by_options : (ds : List NamedDimension) (ls : List ℕ) → by_texts ds ls ≡ option_texts level_text ds (level_options ds ls)
by_options [] ls = refl
by_options (d ∷ ds) [] = refl
by_options (d ∷ ds) (l ∷ ls) = tested (ltb l (length d.levels)) (λ e. rw e (ap (λ z. level_text d l ∷ z) (by_options ds ls))) (λ e. rw e (by_options ds ls))

pick_options : (is_span : Bool) (ds : List NamedDimension) (ps : List (Option Pick)) → pick_texts is_span ds ps ≡ option_texts (pick_text is_span) ds ps
pick_options is_span [] ps = refl
pick_options is_span (d ∷ ds) [] = refl
pick_options is_span (d ∷ ds) (None ∷ ps) = pick_options is_span ds ps
pick_options is_span (d ∷ ds) (Some p ∷ ps) = ap (λ z. pick_text is_span d p ∷ z) (pick_options is_span ds ps)

abbrev pub AllClean : List NamedDimension → Type 0
AllClean [] = Unit {0}
AllClean (d ∷ ds) = Clean d × AllClean ds

pub all_clean : (ds : List NamedDimension) → AllByRecursion IsDimension ds → AllClean ds
all_clean [] h = tt
all_clean (d ∷ ds) h = (clean d h.0, all_clean ds h.1)

levels_read : (ds : List NamedDimension) (ls : List ℕ) → AllClean ds → AllRead (λ n. level n) LevelSays level_text ds (level_options ds ls)
levels_read [] ls c = tt
levels_read (d ∷ ds) [] c = tt
levels_read (d ∷ ds) (l ∷ ls) c = tested (ltb l (length d.levels))
    (λ e. rw e (has_level d.name (slice_index_or d.levels l []) c.0.name (c.0.levels l (ltb-true l (length d.levels) e)), levels_read ds ls c.1))
    (λ e. rw e (levels_read ds ls c.1))

one_member : (d l x y : List ℕ) → Plain d → Plain l → Plain x → x ≡ y → HasReading (λ n. fix n) (PickNames d l x y) (((printed d ++ 46 ∷ printed l) ++ 61 ∷ printed x) ++ [])
one_member d l x y a b c e =
    let P : List ℕ → Type 0 = λ z. HasReading (λ n. fix n) (PickNames d l x z) (((printed d ++ 46 ∷ printed l) ++ 61 ∷ printed x) ++ []) in
    subst P e (has_as (λ n. fix n) (PickNames d l x x) ((printed d ++ 46 ∷ printed l) ++ 61 ∷ printed x) (((printed d ++ 46 ∷ printed l) ++ 61 ∷ printed x) ++ []) (sym (append-nil ((printed d ++ 46 ∷ printed l) ++ 61 ∷ printed x))) (has_fix d l x a b c))

two_members : (d l x y : List ℕ) → Plain d → Plain l → Plain x → Plain y → HasReading (λ n. span n) (PickNames d l x y) (((printed d ++ 46 ∷ printed l) ++ 61 ∷ printed x) ++ (codes ".." ++ printed y))
two_members d l x y a b c e = has_as (λ n. span n) (PickNames d l x y) ((printed d ++ 46 ∷ printed l) ++ 61 ∷ (printed x ++ (46 ∷ 46 ∷ printed y))) (((printed d ++ 46 ∷ printed l) ++ 61 ∷ printed x) ++ (codes ".." ++ printed y))
    (sym (append_assoc (printed d ++ 46 ∷ printed l) (61 ∷ printed x) (46 ∷ 46 ∷ printed y))) (has_span d l x y a b c e)

fixes_read : (ds : List NamedDimension) (ps : List (Option Pick)) → AllClean ds → PicksFit ds ps → list_all is_one ps ≡ true → AllRead (λ n. fix n) PickSays (pick_text false) ds ps
fixes_read [] ps c f o = tt
fixes_read (d ∷ ds) [] c f o = tt
fixes_read (d ∷ ds) (None ∷ ps) c f o = fixes_read ds ps c.1 f.1 o
fixes_read (d ∷ ds) (Some p ∷ ps) c f o =
    let a = and_parts (is_one (Some p)) (list_all is_one ps) o in
    let e = eqb-true p.first p.last a.0 in
    let w = f.0.0 in
    let v : p.first < length (members d p.level) = omega (arith, f.0.1, f.0.2) in (
      one_member d.name (slice_index_or d.levels p.level []) (slice_index_or (members d p.level) p.first []) (slice_index_or (members d p.level) p.last [])
          c.0.name (c.0.levels p.level w) (c.0.members p.level p.first w v) (ap (λ z. slice_index_or (members d p.level) z []) e),
      fixes_read ds ps c.1 f.1 a.1,
    )

spans_read : (ds : List NamedDimension) (ps : List (Option Pick)) → AllClean ds → PicksFit ds ps → AllRead (λ n. span n) PickSays (pick_text true) ds ps
spans_read [] ps c f = tt
spans_read (d ∷ ds) [] c f = tt
spans_read (d ∷ ds) (None ∷ ps) c f = spans_read ds ps c.1 f.1
spans_read (d ∷ ds) (Some p ∷ ps) c f =
    let w = f.0.0 in
    let v : p.first < length (members d p.level) = omega (arith, f.0.1, f.0.2) in (
      two_members d.name (slice_index_or d.levels p.level []) (slice_index_or (members d p.level) p.first []) (slice_index_or (members d p.level) p.last [])
          c.0.name (c.0.levels p.level w) (c.0.members p.level p.first w v) (c.0.members p.level p.last w f.0.2),
      spans_read ds ps c.1 f.1,
    )

-- ---- whole texts

abbrev pub what_name : Dims → What → List ℕ
what_name s Count = codes "count"
what_name s (Measure m) = (measure_at s m).name

pub record QuerySays (s : Dims) (r : Request) (q : Query) : Type 0 where
  pub what : q.what.text ≡ what_name s r.what
  pub by : AreItems LevelSays s.dimensions (level_options s.dimensions r.group) q.by
  pub picks : AreItems PickSays s.dimensions r.picks q.picks

-- items behind blanks and a word, or none
perhaps_read : {A : Type 0} (g : ℕ → Part (List A)) (P : List A → Type 0) (word : List ℕ) (ts : List (List ℕ)) → (ts ≡ [] → P []) → ((first : List ℕ) (more : List (List ℕ)) → ts ≡ first ∷ more → HasReading g P (word ++ first ++ behind (codes ", ") more)) → HasReading (λ n. perhaps (g n)) P (behind word ts)
perhaps_read g P word [] a b = has_left (λ n. nothing []) g P [] (has_nothing [] P (a refl))
perhaps_read g P word (first ∷ more) a b = has_right (λ n. nothing []) g P (word ++ first ++ behind (codes ", ") more) (b first more refl)

fixes_behind : (ds : List NamedDimension) (ps : List (Option Pick)) (ts : List (List ℕ)) → AllClean ds → PicksFit ds ps → list_all is_one ps ≡ true → ts ≡ option_texts (pick_text false) ds ps → HasReading (λ n. perhaps (sp >>= λ _. items (fix n))) (AreItems PickSays ds ps) (behind (codes " ") ts)
fixes_behind ds ps ts c f o e = perhaps_read (λ n. sp >>= λ _. items (fix n)) (AreItems PickSays ds ps) (codes " ") ts
    (λ i. no_items PickSays (pick_text false) ds ps (sym e ∙ i))
    (λ first more i. has_as (λ n. sp >>= λ _. items (fix n)) (AreItems PickSays ds ps) ((32 ∷ []) ++ (first ++ behind (codes ", ") more)) (codes " " ++ first ++ behind (codes ", ") more) refl
    (has_bind (λ n. sp) (λ n _. items (fix n)) Any (AreItems PickSays ds ps) (32 ∷ []) (first ++ behind (codes ", ") more) has_gap
    (λ _ _. items_read (λ n. fix n) PickSays (pick_text false) (comma_eats (λ n. fix n) fix_part) ds ps first more (sym e ∙ i) (fixes_read ds ps c f o))))

where_behind : (ds : List NamedDimension) (ps : List (Option Pick)) (ts : List (List ℕ)) → AllClean ds → PicksFit ds ps → list_all is_one ps ≡ true → ts ≡ option_texts (pick_text false) ds ps → HasReading (λ n. perhaps (sp >>= λ _. word (codes "where") >>= λ _. sp >>= λ _. items (fix n))) (AreItems PickSays ds ps) (behind (codes " where ") ts)
where_behind ds ps ts c f o e = perhaps_read (λ n. sp >>= λ _. word (codes "where") >>= λ _. sp >>= λ _. items (fix n)) (AreItems PickSays ds ps) (codes " where ") ts
    (λ i. no_items PickSays (pick_text false) ds ps (sym e ∙ i))
    (λ first more i. has_as (λ n. sp >>= λ _. word (codes "where") >>= λ _. sp >>= λ _. items (fix n)) (AreItems PickSays ds ps) ((32 ∷ []) ++ (codes "where" ++ ((32 ∷ []) ++ (first ++ behind (codes ", ") more)))) (codes " where " ++ first ++ behind (codes ", ") more) refl
    (has_bind (λ n. sp) (λ n _. word (codes "where") >>= λ _. sp >>= λ _. items (fix n)) Any (AreItems PickSays ds ps) (32 ∷ []) (codes "where" ++ ((32 ∷ []) ++ (first ++ behind (codes ", ") more))) has_gap
    (λ _ _. has_bind (λ n. word (codes "where")) (λ n _. sp >>= λ _. items (fix n)) Any (AreItems PickSays ds ps) (codes "where") ((32 ∷ []) ++ (first ++ behind (codes ", ") more)) (has_word (codes "where"))
    (λ _ _. has_bind (λ n. sp) (λ n _. items (fix n)) Any (AreItems PickSays ds ps) (32 ∷ []) (first ++ behind (codes ", ") more) has_gap
    (λ _ _. items_read (λ n. fix n) PickSays (pick_text false) (comma_eats (λ n. fix n) fix_part) ds ps first more (sym e ∙ i) (fixes_read ds ps c f o))))))

what_reads : (s : Dims) (w : What) → Plain (what_name s w) → HasReading (λ n. name n) (Names (what_name s w)) (what_text s w)
unfolding is_bare
what_reads s Count c = has_name (codes "count") c
what_reads s (Measure m) c = has_name (measure_at s m).name c

-- some texts
pub record SomeTexts (ts : List (List ℕ)) : Type 0 where
  pub first : List ℕ
  pub more : List (List ℕ)
  pub are : ts ≡ first ∷ more

grouped_some : (ds : List NamedDimension) (ls : List ℕ) → is_grouped (map plain ds) ls ≡ true → SomeTexts (option_texts level_text ds (level_options ds ls))
grouped_some [] ls e = absurd (false≢true e)
grouped_some (d ∷ ds) [] e = absurd (false≢true e)
grouped_some (d ∷ ds) (l ∷ ls) e = tested (ltb l (length d.levels))
    (λ t. rw t (record { first = level_text d l; more = option_texts level_text ds (level_options ds ls); are = refl }))
    (λ t. rw t (grouped_some ds ls (let k : is_grouped (map plain ds) ls ≡ true = rw t at e in k)))

ungrouped_none : (ds : List NamedDimension) (ls : List ℕ) → is_grouped (map plain ds) ls ≡ false → option_texts level_text ds (level_options ds ls) ≡ []
ungrouped_none [] ls e = refl
ungrouped_none (d ∷ ds) [] e = refl
ungrouped_none (d ∷ ds) (l ∷ ls) e = tested (ltb l (length d.levels))
    (λ t. absurd (false≢true (sym (let k : true ≡ false = rw t at e in k))))
    (λ t. rw t (ungrouped_none ds ls (let k : is_grouped (map plain ds) ls ≡ false = rw t at e in k)))

spread_some : (is_span : Bool) (ds : List NamedDimension) (ps : List (Option Pick)) → PicksFit ds ps → list_all is_one ps ≡ false → SomeTexts (option_texts (pick_text is_span) ds ps)
spread_some is_span [] [] f e = absurd (false≢true (sym e))
spread_some is_span [] (p ∷ ps) f e = absurd f
spread_some is_span (d ∷ ds) [] f e = absurd f
spread_some is_span (d ∷ ds) (None ∷ ps) f e = spread_some is_span ds ps f.1 e
spread_some is_span (d ∷ ds) (Some p ∷ ps) f e = record { first = pick_text is_span d p; more = option_texts (pick_text is_span) ds ps; are = refl }

cell_reads : (s : Dims) (r : Request) → AllClean s.dimensions → PicksFit s.dimensions r.picks → Plain (what_name s r.what) → is_grouped (plains s) r.group ≡ false → list_all is_one r.picks ≡ true
    → HasReading (λ n. cell n) (QuerySays s r) (codes "cell " ++ what_text s r.what ++ behind (codes " ") (pick_texts false s.dimensions r.picks))
cell_reads s r c f w g o =
    let ts = pick_texts false s.dimensions r.picks in
    let tail = behind (codes " ") ts in
    has_as (λ n. cell n) (QuerySays s r) (codes "cell" ++ ((32 ∷ []) ++ (what_text s r.what ++ (tail ++ [])))) (codes "cell " ++ what_text s r.what ++ tail) (ap (λ z. codes "cell " ++ (what_text s r.what ++ z)) (append-nil tail))
    (has_bind (λ n. word (codes "cell")) (λ n _. sp >>= λ _. name n >>= λ m. perhaps (sp >>= λ _. items (fix n)) >>= λ ps. nothing (record { what = m; by = []; picks = ps })) Any (QuerySays s r) (codes "cell") ((32 ∷ []) ++ (what_text s r.what ++ (tail ++ []))) (has_word (codes "cell"))
    (λ _ _. has_bind (λ n. sp) (λ n _. name n >>= λ m. perhaps (sp >>= λ _. items (fix n)) >>= λ ps. nothing (record { what = m; by = []; picks = ps })) Any (QuerySays s r) (32 ∷ []) (what_text s r.what ++ (tail ++ [])) has_gap
    (λ _ _. has_bind (λ n. name n) (λ n m. perhaps (sp >>= λ _. items (fix n)) >>= λ ps. nothing (record { what = m; by = []; picks = ps })) (Names (what_name s r.what)) (QuerySays s r) (what_text s r.what) (tail ++ []) (what_reads s r.what w)
    (λ m i. has_bind (λ n. perhaps (sp >>= λ _. items (fix n))) (λ n ps. nothing (record { what = m; by = []; picks = ps })) (AreItems PickSays s.dimensions r.picks) (QuerySays s r) tail [] (fixes_behind s.dimensions r.picks ts c f o (pick_options false s.dimensions r.picks))
    (λ ps j. has_nothing (record { what = m; by = []; picks = ps }) (QuerySays s r) (record { what = i; by = no_items LevelSays level_text s.dimensions (level_options s.dimensions r.group) (ungrouped_none s.dimensions r.group g); picks = j }))))))

range_reads : (s : Dims) (r : Request) → AllClean s.dimensions → PicksFit s.dimensions r.picks → Plain (what_name s r.what) → is_grouped (plains s) r.group ≡ false → list_all is_one r.picks ≡ false
    → HasReading (λ n. range n) (QuerySays s r) (codes "range " ++ what_text s r.what ++ behind (codes " ") (pick_texts true s.dimensions r.picks))
range_reads s r c f w g o =
    let t = spread_some true s.dimensions r.picks f o in
    let listed = t.first ++ behind (codes ", ") t.more in
    has_as (λ n. range n) (QuerySays s r) (codes "range" ++ ((32 ∷ []) ++ (what_text s r.what ++ ((32 ∷ []) ++ (listed ++ []))))) (codes "range " ++ what_text s r.what ++ behind (codes " ") (pick_texts true s.dimensions r.picks))
    (rw (append-nil listed, pick_options true s.dimensions r.picks, t.are) refl)
    (has_bind (λ n. word (codes "range")) (λ n _. sp >>= λ _. name n >>= λ m. sp >>= λ _. items (span n) >>= λ ps. nothing (record { what = m; by = []; picks = ps })) Any (QuerySays s r) (codes "range") ((32 ∷ []) ++ (what_text s r.what ++ ((32 ∷ []) ++ (listed ++ [])))) (has_word (codes "range"))
    (λ _ _. has_bind (λ n. sp) (λ n _. name n >>= λ m. sp >>= λ _. items (span n) >>= λ ps. nothing (record { what = m; by = []; picks = ps })) Any (QuerySays s r) (32 ∷ []) (what_text s r.what ++ ((32 ∷ []) ++ (listed ++ []))) has_gap
    (λ _ _. has_bind (λ n. name n) (λ n m. sp >>= λ _. items (span n) >>= λ ps. nothing (record { what = m; by = []; picks = ps })) (Names (what_name s r.what)) (QuerySays s r) (what_text s r.what) ((32 ∷ []) ++ (listed ++ [])) (what_reads s r.what w)
    (λ m i. has_bind (λ n. sp) (λ n _. items (span n) >>= λ ps. nothing (record { what = m; by = []; picks = ps })) Any (QuerySays s r) (32 ∷ []) (listed ++ []) has_gap
    (λ _ _. has_bind (λ n. items (span n)) (λ n ps. nothing (record { what = m; by = []; picks = ps })) (AreItems PickSays s.dimensions r.picks) (QuerySays s r) listed [] (items_read (λ n. span n) PickSays (pick_text true) (comma_eats (λ n. span n) span_part) s.dimensions r.picks t.first t.more t.are (spans_read s.dimensions r.picks c f))
    (λ ps j. has_nothing (record { what = m; by = []; picks = ps }) (QuerySays s r) (record { what = i; by = no_items LevelSays level_text s.dimensions (level_options s.dimensions r.group) (ungrouped_none s.dimensions r.group g); picks = j })))))))

slice_reads : (s : Dims) (r : Request) → AllClean s.dimensions → PicksFit s.dimensions r.picks → Plain (what_name s r.what) → is_grouped (plains s) r.group ≡ true → list_all is_one r.picks ≡ true
    → HasReading (λ n. slice n) (QuerySays s r) (codes "slice " ++ what_text s r.what ++ behind (codes " by ") (by_texts s.dimensions r.group) ++ behind (codes " where ") (pick_texts false s.dimensions r.picks))
slice_reads s r c f w g o =
    let t = grouped_some s.dimensions r.group g in
    let listed = t.first ++ behind (codes ", ") t.more in
    let ts = pick_texts false s.dimensions r.picks in
    let tail = behind (codes " where ") ts in
    has_as (λ n. slice n) (QuerySays s r) (codes "slice" ++ ((32 ∷ []) ++ (what_text s r.what ++ ((32 ∷ []) ++ (codes "by" ++ ((32 ∷ []) ++ (listed ++ (tail ++ []))))))))
    (codes "slice " ++ what_text s r.what ++ behind (codes " by ") (by_texts s.dimensions r.group) ++ tail)
    (let a : codes "slice" ++ ((32 ∷ []) ++ (what_text s r.what ++ ((32 ∷ []) ++ (codes "by" ++ ((32 ∷ []) ++ (listed ++ (tail ++ [])))))))
    ≡ codes "slice " ++ (what_text s r.what ++ ((codes " by " ++ listed) ++ tail)) = ap (λ z. codes "slice " ++ (what_text s r.what ++ (codes " by " ++ (listed ++ z)))) (append-nil tail) in
    let b : codes "slice " ++ (what_text s r.what ++ ((codes " by " ++ listed) ++ tail)) ≡ codes "slice " ++ ((what_text s r.what ++ (codes " by " ++ listed)) ++ tail) = ap (λ z. codes "slice " ++ z) (sym (append_assoc (what_text s r.what) (codes " by " ++ listed) tail)) in
    let d : codes " by " ++ listed ≡ behind (codes " by ") (by_texts s.dimensions r.group) = rw (by_options s.dimensions r.group, t.are) refl in
    a ∙ b ∙ ap (λ z. codes "slice " ++ ((what_text s r.what ++ z) ++ tail)) d)
    (has_bind (λ n. word (codes "slice")) (λ n _. sp >>= λ _. name n >>= λ m. sp >>= λ _. word (codes "by") >>= λ _. sp >>= λ _. items (level n) >>= λ ls. perhaps (sp >>= λ _. word (codes "where") >>= λ _. sp >>= λ _. items (fix n)) >>= λ ps. nothing (record { what = m; by = ls; picks = ps })) Any (QuerySays s r) (codes "slice") ((32 ∷ []) ++ (what_text s r.what ++ ((32 ∷ []) ++ (codes "by" ++ ((32 ∷ []) ++ (listed ++ (tail ++ []))))))) (has_word (codes "slice"))
    (λ _ _. has_bind (λ n. sp) (λ n _. name n >>= λ m. sp >>= λ _. word (codes "by") >>= λ _. sp >>= λ _. items (level n) >>= λ ls. perhaps (sp >>= λ _. word (codes "where") >>= λ _. sp >>= λ _. items (fix n)) >>= λ ps. nothing (record { what = m; by = ls; picks = ps })) Any (QuerySays s r) (32 ∷ []) (what_text s r.what ++ ((32 ∷ []) ++ (codes "by" ++ ((32 ∷ []) ++ (listed ++ (tail ++ [])))))) has_gap
    (λ _ _. has_bind (λ n. name n) (λ n m. sp >>= λ _. word (codes "by") >>= λ _. sp >>= λ _. items (level n) >>= λ ls. perhaps (sp >>= λ _. word (codes "where") >>= λ _. sp >>= λ _. items (fix n)) >>= λ ps. nothing (record { what = m; by = ls; picks = ps })) (Names (what_name s r.what)) (QuerySays s r) (what_text s r.what) ((32 ∷ []) ++ (codes "by" ++ ((32 ∷ []) ++ (listed ++ (tail ++ []))))) (what_reads s r.what w)
    (λ m i. has_bind (λ n. sp) (λ n _. word (codes "by") >>= λ _. sp >>= λ _. items (level n) >>= λ ls. perhaps (sp >>= λ _. word (codes "where") >>= λ _. sp >>= λ _. items (fix n)) >>= λ ps. nothing (record { what = m; by = ls; picks = ps })) Any (QuerySays s r) (32 ∷ []) (codes "by" ++ ((32 ∷ []) ++ (listed ++ (tail ++ [])))) has_gap
    (λ _ _. has_bind (λ n. word (codes "by")) (λ n _. sp >>= λ _. items (level n) >>= λ ls. perhaps (sp >>= λ _. word (codes "where") >>= λ _. sp >>= λ _. items (fix n)) >>= λ ps. nothing (record { what = m; by = ls; picks = ps })) Any (QuerySays s r) (codes "by") ((32 ∷ []) ++ (listed ++ (tail ++ []))) (has_word (codes "by"))
    (λ _ _. has_bind (λ n. sp) (λ n _. items (level n) >>= λ ls. perhaps (sp >>= λ _. word (codes "where") >>= λ _. sp >>= λ _. items (fix n)) >>= λ ps. nothing (record { what = m; by = ls; picks = ps })) Any (QuerySays s r) (32 ∷ []) (listed ++ (tail ++ [])) has_gap
    (λ _ _. has_bind (λ n. items (level n)) (λ n ls. perhaps (sp >>= λ _. word (codes "where") >>= λ _. sp >>= λ _. items (fix n)) >>= λ ps. nothing (record { what = m; by = ls; picks = ps })) (AreItems LevelSays s.dimensions (level_options s.dimensions r.group)) (QuerySays s r) listed (tail ++ [])
    (items_read (λ n. level n) LevelSays level_text (comma_eats (λ n. level n) level_part) s.dimensions (level_options s.dimensions r.group) t.first t.more t.are (levels_read s.dimensions r.group c))
    (λ ls k. has_bind (λ n. perhaps (sp >>= λ _. word (codes "where") >>= λ _. sp >>= λ _. items (fix n))) (λ n ps. nothing (record { what = m; by = ls; picks = ps })) (AreItems PickSays s.dimensions r.picks) (QuerySays s r) tail [] (where_behind s.dimensions r.picks ts c f o (pick_options false s.dimensions r.picks))
    (λ ps j. has_nothing (record { what = m; by = ls; picks = ps }) (QuerySays s r) (record { what = i; by = k; picks = j }))))))))))

form_reads : (s : Dims) (r : Request) → AllClean s.dimensions → Keeps s r → Plain (what_name s r.what) → HasReading (λ n. either (cell n) (either (slice n) (range n))) (QuerySays s r) (request_text s r)
unfolding request_text
form_reads s r c k w = tested (is_grouped (plains s) r.group)
    (λ g. let o : list_all is_one r.picks ≡ true = rw g at k.one in
    rw g (has_right (λ n. cell n) (λ n. either (slice n) (range n)) (QuerySays s r) (codes "slice " ++ what_text s r.what ++ behind (codes " by ") (by_texts s.dimensions r.group) ++ behind (codes " where ") (pick_texts false s.dimensions r.picks))
    (has_left (λ n. slice n) (λ n. range n) (QuerySays s r) (codes "slice " ++ what_text s r.what ++ behind (codes " by ") (by_texts s.dimensions r.group) ++ behind (codes " where ") (pick_texts false s.dimensions r.picks)) (slice_reads s r c k.picks w g o))))
    (λ g. tested (list_all is_one r.picks)
    (λ o. rw (g, o) (has_left (λ n. cell n) (λ n. either (slice n) (range n)) (QuerySays s r) (codes "cell " ++ what_text s r.what ++ behind (codes " ") (pick_texts false s.dimensions r.picks)) (cell_reads s r c k.picks w g o)))
    (λ o. rw (g, o) (has_right (λ n. cell n) (λ n. either (slice n) (range n)) (QuerySays s r) (codes "range " ++ what_text s r.what ++ behind (codes " ") (pick_texts true s.dimensions r.picks))
    (has_right (λ n. slice n) (λ n. range n) (QuerySays s r) (codes "range " ++ what_text s r.what ++ behind (codes " ") (pick_texts true s.dimensions r.picks)) (range_reads s r c k.picks w g o)))))

query_reads : (s : Dims) (r : Request) → AllClean s.dimensions → Keeps s r → Plain (what_name s r.what) → HasReading (λ n. query n) (QuerySays s r) (request_text s r)
query_reads s r c k w = has_as (λ n. query n) (QuerySays s r) ([] ++ (request_text s r ++ ([] ++ []))) (request_text s r) (append-nil (request_text s r))
    (has_bind (λ n. ws) (λ n _. either (cell n) (either (slice n) (range n)) >>= λ q. ws >>= λ _. nothing q) Any (QuerySays s r) [] (request_text s r ++ ([] ++ [])) has_no_blank
    (λ _ _. has_bind (λ n. either (cell n) (either (slice n) (range n))) (λ n q. ws >>= λ _. nothing q) (QuerySays s r) (QuerySays s r) (request_text s r) ([] ++ []) (form_reads s r c k w)
    (λ q i. has_bind (λ n. ws) (λ n _. nothing q) Any (QuerySays s r) [] [] has_no_blank (λ _ _. has_nothing q (QuerySays s r) i))))

-- the query that a canonical text is
pub record IsSaid (s : Dims) (r : Request) : Type 0 where
  pub query : Query
  pub is : IsIn query (queries (request_text s r))
  pub says : QuerySays s r query

read_whole : (f : ℕ → Part Query) (n : ℕ) (w v : List ℕ) (q : Query) → v ≡ w → IsIn (Reads q []) (f n v) → IsIn (Reads q []) (f n w)
read_whole f n w v q e i = rw (sym e) i

pub is_said : (s : Dims) (r : Request) → AllClean s.dimensions → Keeps s r → Plain (what_name s r.what) → IsSaid s r
unfolding queries
is_said s r c k w =
    let a = (query_reads s r c k w).reads (length (request_text s r)) [] in
    record { query = a.value; is = whole_has a.value (query (length (request_text s r)) (request_text s r)) (read_whole query (length (request_text s r)) (request_text s r) (request_text s r ++ []) a.value (append-nil (request_text s r)) a.is); says = a.holds }
