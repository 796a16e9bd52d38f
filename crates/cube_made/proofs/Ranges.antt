-- A range is read as its request, also where each of its picks is of one member.
use Rattle.std.proofs.Common.{◌≡◌, ℕ, ◌<◌, true, List, [], ◌∷◌, ◌++◌, length, codes, refl, sym, arith, append_assoc, append-nil, Option, Some, None, Ok}
use Rattle.std.specs.Prelude.{slice_index_or}
use Rattle.cube_model.specs.Cubes.{IsIn}
use Rattle.cube_model.specs.Dims.{Dims, NamedDimension, members, measure_at, IsDims}
use Rattle.cube_model.specs.declared.request.Request.{Request}
use Rattle.cube_model.specs.declared.request.What.{What}
use Rattle.cube_model.specs.declared.request.What.TheVariants.{Count, Measure}
use Rattle.cube_model.specs.declared.request.Pick.{Pick}
use Rattle.cube_text.specs.Quoting.{is_bare, printed}
use Rattle.cube_query.specs.declared.query.Query.{Query}
use Rattle.cube_query.specs.Grammar.{Part, nothing, ◌>>=◌, either, word, ws, sp, items, name, span, cell, slice, range, query, queries, query_of, syntax_at}
use Rattle.cube_query.specs.Grammar.Reading.{Reads}
use Rattle.cube_query.specs.Canonical.{behind, what_text, level_text, pick_text, PicksFit}
use Rattle.cube_query.specs.Faults.{request_of}
use Rattle.cube_query.proofs.Parts.{whole_has, span_part}
use Rattle.cube_query.proofs.Lists.{comma_eats}
use Rattle.cube_query.proofs.Prints.{Keeps}
use Rattle.cube_query.proofs.Printed.{HasReading, has_as, has_bind, has_nothing, Any, has_word, has_right, has_gap, has_no_blank, has_name, Names, PickNames, has_span, option_texts, AllRead, AreItems, items_read, no_items}
use Rattle.cube_query.proofs.Says.{Plain, LevelSays, PickSays, level_options, AllClean, all_clean, what_name, QuerySays}
use Rattle.cube_query.proofs.Back.{what_plain, resolves_back}
use Rattle.cube_query.proofs.Wholes.{first_of, at_most_one}

two_members : (d l x y : List ℕ) → Plain d → Plain l → Plain x → Plain y → HasReading (λ n. span n) (PickNames d l x y) (((printed d ++ 46 ∷ printed l) ++ 61 ∷ printed x) ++ (codes ".." ++ printed y))
two_members d l x y a b c e = has_as (λ n. span n) (PickNames d l x y) ((printed d ++ 46 ∷ printed l) ++ 61 ∷ (printed x ++ (46 ∷ 46 ∷ printed y))) (((printed d ++ 46 ∷ printed l) ++ 61 ∷ printed x) ++ (codes ".." ++ printed y))
    (sym (append_assoc (printed d ++ 46 ∷ printed l) (61 ∷ printed x) (46 ∷ 46 ∷ printed y))) (has_span d l x y a b c e)

spans_read : (ds : List NamedDimension) (ps : List (Option Pick)) → AllClean ds → PicksFit ds ps → AllRead (λ n. span n) PickSays (pick_text true) ds ps
spans_read [] ps c f = tt
spans_read (d ∷ ds) [] c f = tt
spans_read (d ∷ ds) (None ∷ ps) c f = spans_read ds ps c.1 f.1
spans_read (d ∷ ds) (Some p ∷ ps) c f =
    let w = f.0.0 in
    let v : p.first < length (members d p.level) = omega (arith, f.0.1, f.0.2) in (
      two_members d.name (slice_index_or d.levels p.level []) (slice_index_or (members d p.level) p.first []) (slice_index_or (members d p.level) p.last [])
          c.0.name (c.0.levels p.level w) (c.0.members p.level p.first w v) (c.0.members p.level p.last w f.0.2),
      spans_read ds ps c.1 f.1,
    )

what_reads : (s : Dims) (w : What) → Plain (what_name s w) → HasReading (λ n. name n) (Names (what_name s w)) (what_text s w)
unfolding is_bare
what_reads s Count c = has_name (codes "count") c
what_reads s (Measure m) c = has_name (measure_at s m).name c

-- a range of some picks
abbrev pub range_of : Dims → What → List ℕ → List (List ℕ) → List ℕ
range_of s w first more = codes "range " ++ what_text s w ++ (codes " " ++ (first ++ behind (codes ", ") more))

-- the request groups by nothing, and its picks are the texts of a range
pub record AsksRange (s : Dims) (r : Request) (first : List ℕ) (more : List (List ℕ)) : Type 0 where
  pub plain : option_texts level_text s.dimensions (level_options s.dimensions r.group) ≡ []
  pub picks : option_texts (pick_text true) s.dimensions r.picks ≡ first ∷ more

range_reads : (s : Dims) (r : Request) (first : List ℕ) (more : List (List ℕ)) → AllClean s.dimensions → PicksFit s.dimensions r.picks → Plain (what_name s r.what) → AsksRange s r first more → HasReading (λ n. range n) (QuerySays s r) (range_of s r.what first more)
range_reads s r first more c f w g =
    let listed = first ++ behind (codes ", ") more in
    has_as (λ n. range n) (QuerySays s r) (codes "range" ++ ((32 ∷ []) ++ (what_text s r.what ++ ((32 ∷ []) ++ (listed ++ []))))) (range_of s r.what first more) (rw (append-nil listed) refl)
    (has_bind (λ n. word (codes "range")) (λ n _. sp >>= λ _. name n >>= λ m. sp >>= λ _. items (span n) >>= λ ps. nothing (record { what = m; by = []; picks = ps })) Any (QuerySays s r) (codes "range") ((32 ∷ []) ++ (what_text s r.what ++ ((32 ∷ []) ++ (listed ++ [])))) (has_word (codes "range"))
    (λ _ _. has_bind (λ n. sp) (λ n _. name n >>= λ m. sp >>= λ _. items (span n) >>= λ ps. nothing (record { what = m; by = []; picks = ps })) Any (QuerySays s r) (32 ∷ []) (what_text s r.what ++ ((32 ∷ []) ++ (listed ++ []))) has_gap
    (λ _ _. has_bind (λ n. name n) (λ n m. sp >>= λ _. items (span n) >>= λ ps. nothing (record { what = m; by = []; picks = ps })) (Names (what_name s r.what)) (QuerySays s r) (what_text s r.what) ((32 ∷ []) ++ (listed ++ [])) (what_reads s r.what w)
    (λ m i. has_bind (λ n. sp) (λ n _. items (span n) >>= λ ps. nothing (record { what = m; by = []; picks = ps })) Any (QuerySays s r) (32 ∷ []) (listed ++ []) has_gap
    (λ _ _. has_bind (λ n. items (span n)) (λ n ps. nothing (record { what = m; by = []; picks = ps })) (AreItems PickSays s.dimensions r.picks) (QuerySays s r) listed [] (items_read (λ n. span n) PickSays (pick_text true) (comma_eats (λ n. span n) span_part) s.dimensions r.picks first more g.picks (spans_read s.dimensions r.picks c f))
    (λ ps j. has_nothing (record { what = m; by = []; picks = ps }) (QuerySays s r) (record { what = i; by = no_items LevelSays level_text s.dimensions (level_options s.dimensions r.group) g.plain; picks = j })))))))

query_reads : (s : Dims) (r : Request) (text : List ℕ) → HasReading (λ n. range n) (QuerySays s r) text → HasReading (λ n. query n) (QuerySays s r) text
query_reads s r text h = has_as (λ n. query n) (QuerySays s r) ([] ++ (text ++ ([] ++ []))) text (append-nil text)
    (has_bind (λ n. ws) (λ n _. either (cell n) (either (slice n) (range n)) >>= λ q. ws >>= λ _. nothing q) Any (QuerySays s r) [] (text ++ ([] ++ [])) has_no_blank
    (λ _ _. has_bind (λ n. either (cell n) (either (slice n) (range n))) (λ n q. ws >>= λ _. nothing q) (QuerySays s r) (QuerySays s r) text ([] ++ [])
    (has_right (λ n. cell n) (λ n. either (slice n) (range n)) (QuerySays s r) text (has_right (λ n. slice n) (λ n. range n) (QuerySays s r) text h))
    (λ q i. has_bind (λ n. ws) (λ n _. nothing q) Any (QuerySays s r) [] [] has_no_blank (λ _ _. has_nothing q (QuerySays s r) i))))

read_whole : (f : ℕ → Part Query) (n : ℕ) (w v : List ℕ) (q : Query) → v ≡ w → IsIn (Reads q []) (f n v) → IsIn (Reads q []) (f n w)
read_whole f n w v q e i = rw (sym e) i

-- a text with one reading that says the request is read as it
said_is_read : (s : Dims) (r : Request) (text : List ℕ) → IsDims s → Keeps s r → HasReading (λ n. query n) (QuerySays s r) text → request_of s text ≡ Ok r
unfolding request_of query_of queries
said_is_read s r text h k reads =
    let a = reads.reads (length text) [] in
    let i : IsIn a.value (queries text) = whole_has a.value (query (length text) text) (read_whole query (length text) text (text ++ []) a.value (append-nil text) a.is) in
    let q = first_of (syntax_at text) a.value (queries text) i (λ p j. at_most_one text p a.value j i) in
    rw (q, resolves_back s r a.value h k a.holds) refl

pub range_is_read : (s : Dims) (r : Request) (first : List ℕ) (more : List (List ℕ)) → IsDims s → Keeps s r → AsksRange s r first more → request_of s (range_of s r.what first more) ≡ Ok r
range_is_read s r first more h k g = said_is_read s r (range_of s r.what first more) h k (query_reads s r (range_of s r.what first more) (range_reads s r first more (all_clean s.dimensions h.each_dimension) k.picks (what_plain s r.what h k.there) g))
