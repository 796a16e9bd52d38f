-- The line of a request has no other line feed, and fewer than 2^14 bytes.
use Rattle.std.proofs.Common.{◌≡◌, ◌≢◌, ℕ, zero, suc, ◌+◌, ◌*◌, ◌^◌, ◌<◌, ◌≤◌, Bool, true, false, not, ◌&&◌, ◌||◌, ◌==◌, nat_le, nat_lt, List, [], ◌∷◌, ◌++◌, length, map, filter, refl, sym, ◌∙◌, ap, arith, codes, length-append, if◌then◌else◌, Option, Some, None}
use Rattle.std.specs.Prelude.{slice_index_or}
use Rattle.std.specs.List.{list_any, list_all, flat_map, AllByRecursion}
use Rattle.std.specs.Str.{is_utf8, bytes_eq}
use Rattle.std.proofs.lemmas.Bool.Decides.{nat_tests}
use Rattle.std.proofs.Math.Nat.{mul-le-mul_right}
use Rattle.cube_model.specs.Cubes.{Each, distinct, names_at, same}
use Rattle.cube_model.specs.Dims.{Dims, NamedDimension, NamedMeasure, IsDims, IsDimension, IsMeasure, plain, plains, members, no_measure}
use Rattle.cube_model.specs.Names.{is_control, is_name, is_level_name, is_measure_name, begins_with_mark}
use Rattle.cube_model.specs.Requests.{is_grouped, is_one}
use Rattle.cube_model.specs.declared.request.Request.{Request}
use Rattle.cube_model.specs.declared.request.What.{What}
use Rattle.cube_model.specs.declared.request.What.TheVariants.{Count, Measure}
use Rattle.cube_model.specs.declared.request.Pick.{Pick}
use Rattle.cube_text.specs.Quoting.{is_bare_name, is_marked, spelled, quoted, printed}
use Rattle.cube_query.specs.Canonical.{what_text, level_text, member_text, pick_text, behind, by_texts, pick_texts, request_text}
use Rattle.cube_io.proofs.Trails.{each_append}
use Rattle.cube_journal.specs.Lines.{IsLine, IsInLine}
use Rattle.cube_journal.specs.RequestLines.{request_line}
use Rattle.cube_journal.proofs.Digits.{both}
use Rattle.cube_journal.proofs.LineFacts.{clean_text}

-- no line feed, and at most so many bytes
pub record Short (n : ℕ) (text : List ℕ) : Type 0 where
  pub clean : IsInLine text
  pub few : length text ≤ n

pub joins : (a b : ℕ) (x y : List ℕ) → Short a x → Short b y → Short (a + b) (x ++ y)
joins a b x y f g = record { clean = each_append (λ b. b ≢ 10) x y f.clean g.clean; few = omega (arith, f.few, g.few, length-append x y) }

pub wider : (a b : ℕ) (x : List ℕ) → a ≤ b → Short a x → Short b x
wider a b x le f = record { clean = f.clean; few = omega (arith, le, f.few) }

-- ---- names
no_control : (t : Bool) (b : ℕ) → is_control b ≡ t → t ≡ false → b ≢ 10
no_control t b is none feed = let e : is_control 10 ≡ false = ap is_control (sym feed) ∙ is ∙ none in cc

clean_name : (x : List ℕ) → list_any is_control x ≡ false → IsInLine x
clean_name [] none = tt
clean_name (b ∷ x) none = by (is_control b) refl none (clean_name x)
  where
    by : (t : Bool) → is_control b ≡ t → (t || list_any is_control x) ≡ false → (list_any is_control x ≡ false → IsInLine x) → IsInLine (b ∷ x)
    by true is none more = absurd (cc)
    by false is none more = (no_control false b is refl, more none)

spelled_short : (t : Bool) (b : ℕ) → b ≢ 10 → Short 2 (if t then 92 ∷ b ∷ [] else b ∷ [])
spelled_short true b ne = record { clean = ((λ e. cc), (ne, tt)); few = omega arith }
spelled_short false b ne = record { clean = (ne, tt); few = omega arith }

all_spelled : (x : List ℕ) → IsInLine x → Short (2 * length x) (flat_map spelled x)
all_spelled [] clean = record { clean = tt; few = omega arith }
all_spelled (b ∷ x) clean = wider (2 + 2 * length x) (2 * length (b ∷ x)) (flat_map spelled (b ∷ x)) (omega arith) (joins 2 (2 * length x) (spelled b) (flat_map spelled x) (spelled_short (is_marked b) b clean.0) (all_spelled x clean.1))

pub one_short : (b : ℕ) → b ≢ 10 → Short 1 (b ∷ [])
one_short b ne = record { clean = (ne, tt); few = omega arith }

quoted_short : (x : List ℕ) → IsInLine x → length x ≤ 128 → Short 258 (quoted x)
quoted_short x clean few = wider (1 + (2 * length x + 1)) 258 (quoted x) (omega (arith, few)) (joins 1 (2 * length x + 1) (34 ∷ []) (flat_map spelled x ++ 34 ∷ []) (one_short 34 (λ e. cc)) (joins (2 * length x) 1 (flat_map spelled x) (34 ∷ []) (all_spelled x clean) (one_short 34 (λ e. cc))))

printed_by : (t : Bool) (x : List ℕ) → IsInLine x → length x ≤ 128 → Short 258 (if t then x else quoted x)
printed_by true x clean few = record { clean = clean; few = omega (arith, few) }
printed_by false x clean few = quoted_short x clean few

-- a name that is printed, or none
abbrev IsShort : List ℕ → Type 0
IsShort x = Short 258 (printed x)

none_short : IsShort []
none_short = printed_by (is_bare_name []) [] tt (omega arith)

not_true : (t : Bool) → not t ≡ true → t ≡ false
not_true true e = absurd (cc)
not_true false e = refl

name_by : (a b c d e : Bool) → (a && b && c && d && e) ≡ true → (c ≡ true) × (d ≡ true)
name_by a b c d e is =
    let outer = both (a && b && c && d) e is in
    let inner = both (a && b && c) d outer.0 in
    ((both (a && b) c inner.0).1, inner.1)

name_short : (x : List ℕ) → is_name x ≡ true → IsShort x
unfolding is_name
name_short x is =
    let parts = name_by (is_utf8 x) (nat_le 1 (length x)) (nat_le (length x) 128) (not (list_any is_control x)) (not (begins_with_mark x)) is in
    let t : nat_le (length x) 128 ≡ true = parts.0 in
    let few : length x ≤ 128 = grind (arith, nat_tests) in
    printed_by (is_bare_name x) x (clean_name x (not_true (list_any is_control x) parts.1)) few

level_short : (x : List ℕ) → is_level_name x ≡ true → IsShort x
unfolding is_level_name
level_short x is = name_short x (both (is_name x) (not (bytes_eq x (codes "all"))) is).0

measure_short : (x : List ℕ) → is_measure_name x ≡ true → IsShort x
unfolding is_measure_name
measure_short x is = name_short x (both (is_name x) (not (bytes_eq x (codes "count"))) is).0

each_of : (p : List ℕ → Bool) (xs : List (List ℕ)) → ((x : List ℕ) → p x ≡ true → IsShort x) → list_all p xs ≡ true → Each IsShort xs
each_of p [] f all = tt
each_of p (x ∷ xs) f all = (f x (both (p x) (list_all p xs) all).0, each_of p xs f (both (p x) (list_all p xs) all).1)

at_index : (xs : List (List ℕ)) (n : ℕ) → Each IsShort xs → IsShort (slice_index_or xs n [])
at_index [] n each = none_short
at_index (x ∷ xs) zero each = each.0
at_index (x ∷ xs) (suc n) each = at_index xs n each.1

each_filter : (p : List ℕ → Bool) (xs : List (List ℕ)) → Each IsShort xs → Each IsShort (filter p xs)
each_filter p [] each = tt
each_filter p (x ∷ xs) each = by (p x) (each_filter p xs each.1)
  where
    by : (t : Bool) → Each IsShort (filter p xs) → Each IsShort (if t then x ∷ filter p xs else filter p xs)
    by true more = (each.0, more)
    by false more = more

each_distinct : (xs : List (List ℕ)) → Each IsShort xs → Each IsShort (distinct xs)
each_distinct [] each = tt
each_distinct (x ∷ xs) each = (each.0, each_filter (λ y. not (same x y)) (distinct xs) (each_distinct xs each.1))

each_path : (paths : List (List (List ℕ))) (l : ℕ) → list_all (λ path. list_all is_name path) paths ≡ true → Each IsShort (map (λ path. slice_index_or path l []) paths)
each_path [] l all = tt
each_path (path ∷ paths) l all =
    let here = both (list_all is_name path) (list_all (λ path. list_all is_name path) paths) all in
    (at_index path l (each_of is_name path name_short here.0), each_path paths l here.1)

-- ---- parts of a request
member_short : (d : NamedDimension) (l x : ℕ) → IsDimension d → Short 258 (member_text d l x)
member_short d l x is = at_index (members d l) x (each_distinct (names_at (plain d) l) (each_path d.paths l is.member_names))

named_level_short : (d : NamedDimension) (l : ℕ) → IsDimension d → Short 517 (level_text d l)
named_level_short d l is = joins 258 259 (printed d.name) (46 ∷ printed (slice_index_or d.levels l [])) (name_short d.name is.name) (joins 1 258 (46 ∷ []) (printed (slice_index_or d.levels l [])) (one_short 46 (λ e. cc)) (at_index d.levels l (each_of is_level_name d.levels level_short is.level_names)))

last_short : (is_span : Bool) (last : List ℕ) → Short 258 last → Short 260 (if is_span then codes ".." ++ last else [])
last_short true last short = joins 2 258 (codes "..") last (record { clean = clean_text (codes "..") refl; few = omega arith }) short
last_short false last short = record { clean = tt; few = omega arith }

pick_short : (is_span : Bool) (d : NamedDimension) (p : Pick) → IsDimension d → Short 1036 (pick_text is_span d p)
pick_short is_span d p is = joins 776 260 (level_text d p.level ++ 61 ∷ member_text d p.level p.first) (if is_span then codes ".." ++ member_text d p.level p.last else [])
    (joins 517 259 (level_text d p.level) (61 ∷ member_text d p.level p.first) (named_level_short d p.level is) (joins 1 258 (61 ∷ []) (member_text d p.level p.first) (one_short 61 (λ e. cc)) (member_short d p.level p.first is)))
    (last_short is_span (member_text d p.level p.last) (member_short d p.level p.last is))

-- at most so many texts, each short
record Few (n most : ℕ) (texts : List (List ℕ)) : Type 0 where
  each : Each (Short n) texts
  many : length texts ≤ most

level_here : (t : Bool) (text : List ℕ) (n most : ℕ) (more : List (List ℕ)) → Short n text → Few n most more → Few n (suc most) ((if t then text ∷ [] else []) ++ more)
level_here true text n most more short few = record { each = (short, few.each); many = omega (arith, few.many) }
level_here false text n most more short few = record { each = few.each; many = omega (arith, few.many) }

by_few : (ds : List NamedDimension) (ls : List ℕ) → AllByRecursion IsDimension ds → Few 517 (length ds) (by_texts ds ls)
by_few [] ls each = record { each = tt; many = omega arith }
by_few (d ∷ ds) [] each = record { each = tt; many = omega arith }
by_few (d ∷ ds) (l ∷ ls) each = level_here (nat_lt l (length d.levels)) (level_text d l) 517 (length ds) (by_texts ds ls) (named_level_short d l each.0) (by_few ds ls each.1)

picks_few : (is_span : Bool) (ds : List NamedDimension) (ps : List (Option Pick)) → AllByRecursion IsDimension ds → Few 1036 (length ds) (pick_texts is_span ds ps)
picks_few is_span [] ps each = record { each = tt; many = omega arith }
picks_few is_span (d ∷ ds) [] each = record { each = tt; many = omega arith }
picks_few is_span (d ∷ ds) (None ∷ ps) each = let more = picks_few is_span ds ps each.1 in record { each = more.each; many = omega (arith, more.many) }
picks_few is_span (d ∷ ds) (Some p ∷ ps) each = let more = picks_few is_span ds ps each.1 in record { each = (pick_short is_span d p each.0, more.each); many = omega (arith, more.many) }

behind_short : (n : ℕ) (w : List ℕ) (texts : List (List ℕ)) → Short 7 w → Each (Short n) texts → Short (length texts * (7 + n)) (behind w texts)
behind_short n w [] word each = record { clean = tt; few = omega arith }
behind_short n w (x ∷ xs) word each =
    let comma : Short 7 (codes ", ") = record { clean = clean_text (codes ", ") refl; few = omega arith } in
    wider ((7 + n) + length xs * (7 + n)) (length (x ∷ xs) * (7 + n)) (behind w (x ∷ xs)) (omega arith) (joins (7 + n) (length xs * (7 + n)) (w ++ x) (behind (codes ", ") xs) (joins 7 n w x word each.0) (behind_short n (codes ", ") xs comma each.1))

behind_eight : (n most : ℕ) (w : List ℕ) (texts : List (List ℕ)) → Short 7 w → Few n most texts → most ≤ 8 → Short (8 * (7 + n)) (behind w texts)
behind_eight n most w texts word few le = wider (length texts * (7 + n)) (8 * (7 + n)) (behind w texts) (let e = mul-le-mul_right (7 + n) (few_eight (length texts) most few.many le) in e) (behind_short n w texts word few.each)
  where
    few_eight : (k m : ℕ) → k ≤ m → m ≤ 8 → k ≤ 8
    few_eight k m a b = omega arith

-- ---- the whole line
measure_at_short : (ms : List NamedMeasure) (m : ℕ) → AllByRecursion IsMeasure ms → IsShort (slice_index_or ms m no_measure).name
measure_at_short [] m each = none_short
measure_at_short (k ∷ ms) zero each = measure_short k.name each.0.name
measure_at_short (k ∷ ms) (suc m) each = measure_at_short ms m each.1

what_short : (s : Dims) (what : What) → IsDims s → Short 258 (what_text s what)
what_short s Count is = record { clean = clean_text (codes "count") refl; few = omega arith }
what_short s (Measure m) is = measure_at_short s.measures m is.each_measure

word_short : (w : List ℕ) → list_all (λ b. not (b == 10)) w ≡ true → length w ≤ 7 → Short 7 w
word_short w clean few = record { clean = clean_text w clean; few = few }

request_short : (s : Dims) (r : Request) (group one : Bool) → IsDims s
    → Short 12809 (if group then codes "slice " ++ what_text s r.what ++ behind (codes " by ") (by_texts s.dimensions r.group) ++ behind (codes " where ") (pick_texts false s.dimensions r.picks)
    else if one then codes "cell " ++ what_text s r.what ++ behind (codes " ") (pick_texts false s.dimensions r.picks)
    else codes "range " ++ what_text s r.what ++ behind (codes " ") (pick_texts true s.dimensions r.picks))
request_short s r true one is =
    joins 4457 8352 (codes "slice " ++ what_text s r.what ++ behind (codes " by ") (by_texts s.dimensions r.group)) (behind (codes " where ") (pick_texts false s.dimensions r.picks))
    (joins 265 4192 (codes "slice " ++ what_text s r.what) (behind (codes " by ") (by_texts s.dimensions r.group)) (joins 7 258 (codes "slice ") (what_text s r.what) (word_short (codes "slice ") refl (omega arith)) (what_short s r.what is))
    (behind_eight 517 (length s.dimensions) (codes " by ") (by_texts s.dimensions r.group) (word_short (codes " by ") refl (omega arith)) (by_few s.dimensions r.group is.each_dimension) is.few_dimensions))
    (wider 8344 8352 (behind (codes " where ") (pick_texts false s.dimensions r.picks)) (omega arith) (behind_eight 1036 (length s.dimensions) (codes " where ") (pick_texts false s.dimensions r.picks) (word_short (codes " where ") refl (omega arith)) (picks_few false s.dimensions r.picks is.each_dimension) is.few_dimensions))
request_short s r false true is =
    wider 8609 12809 (codes "cell " ++ what_text s r.what ++ behind (codes " ") (pick_texts false s.dimensions r.picks)) (omega arith) (joins 265 8344 (codes "cell " ++ what_text s r.what) (behind (codes " ") (pick_texts false s.dimensions r.picks)) (joins 7 258 (codes "cell ") (what_text s r.what) (word_short (codes "cell ") refl (omega arith)) (what_short s r.what is))
    (behind_eight 1036 (length s.dimensions) (codes " ") (pick_texts false s.dimensions r.picks) (word_short (codes " ") refl (omega arith)) (picks_few false s.dimensions r.picks is.each_dimension) is.few_dimensions))
request_short s r false false is =
    wider 8609 12809 (codes "range " ++ what_text s r.what ++ behind (codes " ") (pick_texts true s.dimensions r.picks)) (omega arith) (joins 265 8344 (codes "range " ++ what_text s r.what) (behind (codes " ") (pick_texts true s.dimensions r.picks)) (joins 7 258 (codes "range ") (what_text s r.what) (word_short (codes "range ") refl (omega arith)) (what_short s r.what is))
    (behind_eight 1036 (length s.dimensions) (codes " ") (pick_texts true s.dimensions r.picks) (word_short (codes " ") refl (omega arith)) (picks_few true s.dimensions r.picks is.each_dimension) is.few_dimensions))

text_short : (s : Dims) (r : Request) → IsDims s → Short 12809 (request_text s r)
unfolding request_text
text_short s r is = request_short s r (is_grouped (plains s) r.group) (list_all is_one r.picks) is

pub line_fits : (s : Dims) (r : Request) → IsDims s → IsLine (request_line s r) × (length (request_line s r) < 2 ^ 14)
line_fits s r is =
    let text = joins 7 12809 (codes "q ") (request_text s r) (word_short (codes "q ") refl (omega arith)) (text_short s r is) in
    (record { text = codes "q " ++ request_text s r; ended = refl; clean = text.clean }, omega (arith, text.few, length-append (codes "q " ++ request_text s r) (10 ∷ [])))
