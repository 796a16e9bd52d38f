-- A request that was read is valid.
use Rattle.std.proofs.Common.{◌≡◌, ◌⊎◌, inl, inr, ℕ, zero, suc, ◌<◌, ◌≤◌, Bool, true, false, ltb, eq-eqb, List, [], ◌∷◌, ◌++◌, length, map, refl, sym, ap, subst, ◌∙◌, arith, append_assoc, Ok, Err}
use Rattle.std.specs.Prelude.{Some, None, Result, codes, not, ◌&&◌, ◌||◌, nat_lt}
use Rattle.std.specs.List.{list_all, list_any, position_or_len}
use Rattle.std.specs.Str.{bytes_eq}
use Rattle.std.proofs.lemmas.Bool.{false≢true, ltb-true, ltb-false, lt-ltb, le-ltb, le-leb}
use Rattle.std.proofs.lemmas.List.{length-map}
use Rattle.cube_model.specs.Cubes.{IsIn}
use Rattle.cube_model.proofs.Members.{tested, IsIn-append, IsIn-flat_map}
use Rattle.cube_model.specs.Checks.{check, in_turn, unless}
use Rattle.cube_model.specs.Dims.{Dims, NamedDimension, plain, plains, members, dimension_names, measure_names, IsDims}
use Rattle.cube_model.specs.Requests.{fits, is_level, is_grouped, is_one}
use Rattle.cube_model.specs.declared.request.Request.{Request}
use Rattle.cube_query.specs.declared.query.Name.{Name}
use Rattle.cube_query.specs.declared.query.LevelName.{LevelName}
use Rattle.cube_query.specs.declared.query.PickName.{PickName}
use Rattle.cube_query.specs.declared.query.Query.{Query}
use Rattle.cube_query.specs.declared.resolving.ResolveFault.{ResolveFault}
use Rattle.cube_query.specs.declared.resolving.ResolveFault.TheVariants as fault
use Rattle.cube_query.specs.Grammar.{Reading, Part, nothing, ◌>>=◌, either, up_to, many, word, ws, sp, sign, items, perhaps, name, level, fix, span, cell, slice, range, query, queries, whole, read_or, syntax_at, query_of}
use Rattle.cube_query.specs.Grammar.Reading.{Reads}
use Rattle.cube_query.specs.Requests.{number, is_unknown, named, item_faults, said_of, level_faults, member_faults, order_faults, pick_faults, by_faults, picks_faults, query_faults, what_faults, is_count, what_of, level_in_dimension, pick_in_dimension, members_at, group_at, pick_at, request_in, resolved}
use Rattle.cube_query.specs.Canonical.{is_there, is_request}
use Rattle.cube_query.specs.Faults.{request_of, requested, with_fault}
use Rattle.cube_query.specs.Laws.{ReadIsValid}
use Rattle.cube_query.proofs.Parts.{through, one_reading, whole_is}
use Rattle.cube_query.proofs.Runs.{reads_same}
use Rattle.cube_query.proofs.Lists.{comma_then}
use Rattle.cube_query.proofs.Places.{Once, once, bytes_same}
use Rattle.cube_query.proofs.Back.{stands_at}

-- ---- what every reading of a part has

pub record AllReadings {A : Type 0} (f : ℕ → Part A) (P : A → Type 0) : Type 0 where
  pub each : (n : ℕ) (t : List ℕ) (x : A) (rest : List ℕ) → IsIn (Reads x rest) (f n t) → P x

abbrev Any : {A : Type 0} → A → Type 0
Any x = Unit {0}

all_any : {A : Type 0} (f : ℕ → Part A) → AllReadings f Any
all_any f = record { each = λ n t x rest i. tt }

all_nothing : {A : Type 0} (x : A) (P : A → Type 0) → P x → AllReadings (λ n. nothing x) P
all_nothing x P h = record { each = λ n t y rest i. let s = reads_same x y t rest (one_reading (Reads y rest) (Reads x t) i) in subst P s.0 h }

all_bind : {A B : Type 0} (f : ℕ → Part A) (g : ℕ → A → Part B) (P : A → Type 0) (Q : B → Type 0) → AllReadings f P → ((x : A) → P x → AllReadings (λ n. g n x) Q) → AllReadings (λ n. f n >>= g n) Q
all_bind f g P Q F G = record { each = λ n t x rest i. let e = through (f n) (g n) x rest t i in (G e.value (F.each n t e.value e.rest e.first)).each n e.rest x rest e.second }

all_either : {A : Type 0} (f g : ℕ → Part A) (P : A → Type 0) → AllReadings f P → AllReadings g P → AllReadings (λ n. either (f n) (g n)) P
all_either f g P F G = record { each = λ n t x rest i. elim (IsIn-append (Reads x rest) (f n t) (g n t) i) [ inl e ↦ F.each n t x rest e | inr e ↦ G.each n t x rest e ] }

abbrev pub Each : {A : Type 0} → (A → Type 0) → List A → Type 0
Each P [] = Unit {0}
Each P (x ∷ xs) = P x × Each P xs

all_up_to : {A : Type 0} (k : ℕ) (f : ℕ → Part A) (P : A → Type 0) → AllReadings f P → AllReadings (λ n. up_to k (f n)) (Each P)
all_up_to zero f P F = all_nothing [] (Each P) tt
all_up_to (suc k) f P F = all_either (λ n. nothing []) (λ n. f n >>= λ x. up_to k (f n) >>= λ xs. nothing (x ∷ xs)) (Each P) (all_nothing [] (Each P) tt)
    (all_bind f (λ n x. up_to k (f n) >>= λ xs. nothing (x ∷ xs)) P (Each P) F (λ x p. all_bind (λ n. up_to k (f n)) (λ n xs. nothing (x ∷ xs)) (Each P) (Each P) (all_up_to k f P F) (λ xs q. all_nothing (x ∷ xs) (Each P) (p, q))))

all_many : {A : Type 0} (f : ℕ → Part A) (P : A → Type 0) → AllReadings f P → AllReadings (λ n. many (f n)) (Each P)
all_many f P F = record { each = λ n t x rest i. (all_up_to (suc (length t)) f P F).each n t x rest i }

all_items : {A : Type 0} (f : ℕ → Part A) (P : A → Type 0) → AllReadings f P → AllReadings (λ n. items (f n)) (Each P)
all_items f P F = all_bind f (λ n x. many (comma_then f n) >>= λ xs. nothing (x ∷ xs)) P (Each P) F
    (λ x p. all_bind (λ n. many (comma_then f n)) (λ n xs. nothing (x ∷ xs)) (Each P) (Each P)
    (all_many (λ n. comma_then f n) P (all_bind (λ n. sign (codes ",")) (λ n _. f n) Any P (all_any (λ n. sign (codes ","))) (λ _ _. F)))
    (λ xs q. all_nothing (x ∷ xs) (Each P) (p, q)))

abbrev OneMember : PickName → Type 0
OneMember p = p.first.text ≡ p.last.text

fix_one : AllReadings (λ n. fix n) OneMember
fix_one = all_bind (λ n. level n) (λ n l. sign (codes "=") >>= λ _. name n >>= λ x. nothing (record { level = l; first = x; last = x })) Any OneMember (all_any (λ n. level n))
    (λ l _. all_bind (λ n. sign (codes "=")) (λ n _. name n >>= λ x. nothing (record { level = l; first = x; last = x })) Any OneMember (all_any (λ n. sign (codes "=")))
    (λ _ _. all_bind (λ n. name n) (λ n x. nothing (record { level = l; first = x; last = x })) Any OneMember (all_any (λ n. name n))
    (λ x _. all_nothing (record { level = l; first = x; last = x }) OneMember refl)))

abbrev Shape : Query → Type 0
Shape q = (q.by ≡ []) ⊎ Each OneMember q.picks

cell_shape : AllReadings (λ n. cell n) Shape
cell_shape = all_bind (λ n. word (codes "cell")) (λ n _. sp >>= λ _. name n >>= λ m. perhaps (sp >>= λ _. items (fix n)) >>= λ ps. nothing (record { what = m; by = []; picks = ps })) Any Shape (all_any (λ n. word (codes "cell")))
    (λ _ _. all_bind (λ n. sp) (λ n _. name n >>= λ m. perhaps (sp >>= λ _. items (fix n)) >>= λ ps. nothing (record { what = m; by = []; picks = ps })) Any Shape (all_any (λ n. sp))
    (λ _ _. all_bind (λ n. name n) (λ n m. perhaps (sp >>= λ _. items (fix n)) >>= λ ps. nothing (record { what = m; by = []; picks = ps })) Any Shape (all_any (λ n. name n))
    (λ m _. all_bind (λ n. perhaps (sp >>= λ _. items (fix n))) (λ n ps. nothing (record { what = m; by = []; picks = ps })) Any Shape (all_any (λ n. perhaps (sp >>= λ _. items (fix n))))
    (λ ps _. all_nothing (record { what = m; by = []; picks = ps }) Shape (inl refl)))))

range_shape : AllReadings (λ n. range n) Shape
range_shape = all_bind (λ n. word (codes "range")) (λ n _. sp >>= λ _. name n >>= λ m. sp >>= λ _. items (span n) >>= λ ps. nothing (record { what = m; by = []; picks = ps })) Any Shape (all_any (λ n. word (codes "range")))
    (λ _ _. all_bind (λ n. sp) (λ n _. name n >>= λ m. sp >>= λ _. items (span n) >>= λ ps. nothing (record { what = m; by = []; picks = ps })) Any Shape (all_any (λ n. sp))
    (λ _ _. all_bind (λ n. name n) (λ n m. sp >>= λ _. items (span n) >>= λ ps. nothing (record { what = m; by = []; picks = ps })) Any Shape (all_any (λ n. name n))
    (λ m _. all_bind (λ n. sp) (λ n _. items (span n) >>= λ ps. nothing (record { what = m; by = []; picks = ps })) Any Shape (all_any (λ n. sp))
    (λ _ _. all_bind (λ n. items (span n)) (λ n ps. nothing (record { what = m; by = []; picks = ps })) Any Shape (all_any (λ n. items (span n)))
    (λ ps _. all_nothing (record { what = m; by = []; picks = ps }) Shape (inl refl))))))

where_one : AllReadings (λ n. perhaps (sp >>= λ _. word (codes "where") >>= λ _. sp >>= λ _. items (fix n))) (Each OneMember)
where_one = all_either (λ n. nothing []) (λ n. sp >>= λ _. word (codes "where") >>= λ _. sp >>= λ _. items (fix n)) (Each OneMember) (all_nothing [] (Each OneMember) tt)
    (all_bind (λ n. sp) (λ n _. word (codes "where") >>= λ _. sp >>= λ _. items (fix n)) Any (Each OneMember) (all_any (λ n. sp))
    (λ _ _. all_bind (λ n. word (codes "where")) (λ n _. sp >>= λ _. items (fix n)) Any (Each OneMember) (all_any (λ n. word (codes "where")))
    (λ _ _. all_bind (λ n. sp) (λ n _. items (fix n)) Any (Each OneMember) (all_any (λ n. sp)) (λ _ _. all_items (λ n. fix n) OneMember fix_one))))

slice_shape : AllReadings (λ n. slice n) Shape
slice_shape = all_bind (λ n. word (codes "slice")) (λ n _. sp >>= λ _. name n >>= λ m. sp >>= λ _. word (codes "by") >>= λ _. sp >>= λ _. items (level n) >>= λ ls. perhaps (sp >>= λ _. word (codes "where") >>= λ _. sp >>= λ _. items (fix n)) >>= λ ps. nothing (record { what = m; by = ls; picks = ps })) Any Shape (all_any (λ n. word (codes "slice")))
    (λ _ _. all_bind (λ n. sp) (λ n _. name n >>= λ m. sp >>= λ _. word (codes "by") >>= λ _. sp >>= λ _. items (level n) >>= λ ls. perhaps (sp >>= λ _. word (codes "where") >>= λ _. sp >>= λ _. items (fix n)) >>= λ ps. nothing (record { what = m; by = ls; picks = ps })) Any Shape (all_any (λ n. sp))
    (λ _ _. all_bind (λ n. name n) (λ n m. sp >>= λ _. word (codes "by") >>= λ _. sp >>= λ _. items (level n) >>= λ ls. perhaps (sp >>= λ _. word (codes "where") >>= λ _. sp >>= λ _. items (fix n)) >>= λ ps. nothing (record { what = m; by = ls; picks = ps })) Any Shape (all_any (λ n. name n))
    (λ m _. all_bind (λ n. sp) (λ n _. word (codes "by") >>= λ _. sp >>= λ _. items (level n) >>= λ ls. perhaps (sp >>= λ _. word (codes "where") >>= λ _. sp >>= λ _. items (fix n)) >>= λ ps. nothing (record { what = m; by = ls; picks = ps })) Any Shape (all_any (λ n. sp))
    (λ _ _. all_bind (λ n. word (codes "by")) (λ n _. sp >>= λ _. items (level n) >>= λ ls. perhaps (sp >>= λ _. word (codes "where") >>= λ _. sp >>= λ _. items (fix n)) >>= λ ps. nothing (record { what = m; by = ls; picks = ps })) Any Shape (all_any (λ n. word (codes "by")))
    (λ _ _. all_bind (λ n. sp) (λ n _. items (level n) >>= λ ls. perhaps (sp >>= λ _. word (codes "where") >>= λ _. sp >>= λ _. items (fix n)) >>= λ ps. nothing (record { what = m; by = ls; picks = ps })) Any Shape (all_any (λ n. sp))
    (λ _ _. all_bind (λ n. items (level n)) (λ n ls. perhaps (sp >>= λ _. word (codes "where") >>= λ _. sp >>= λ _. items (fix n)) >>= λ ps. nothing (record { what = m; by = ls; picks = ps })) Any Shape (all_any (λ n. items (level n)))
    (λ ls _. all_bind (λ n. perhaps (sp >>= λ _. word (codes "where") >>= λ _. sp >>= λ _. items (fix n))) (λ n ps. nothing (record { what = m; by = ls; picks = ps })) (Each OneMember) Shape where_one
    (λ ps p. all_nothing (record { what = m; by = ls; picks = ps }) Shape (inr p)))))))))

query_shape : AllReadings (λ n. query n) Shape
query_shape = all_bind (λ n. ws) (λ n _. either (cell n) (either (slice n) (range n)) >>= λ q. ws >>= λ _. nothing q) Any Shape (all_any (λ n. ws))
    (λ _ _. all_bind (λ n. either (cell n) (either (slice n) (range n))) (λ n q. ws >>= λ _. nothing q) Shape Shape (all_either (λ n. cell n) (λ n. either (slice n) (range n)) Shape cell_shape (all_either (λ n. slice n) (λ n. range n) Shape slice_shape range_shape))
    (λ q s. all_bind (λ n. ws) (λ n _. nothing q) Any Shape (all_any (λ n. ws)) (λ _ _. all_nothing q Shape s)))

shape_of : (text : List ℕ) (q : Query) → IsIn q (queries text) → Shape q
unfolding queries
shape_of text q i = let m = IsIn-flat_map whole q (query (length text) text) i in query_shape.each (length text) text q [] (moved_in m.0 (Reads q []) (query (length text) text) (whole_is q m.0 m.2) m.1)
  where
    moved_in : (y z : Reading Query) (rs : List (Reading Query)) → y ≡ z → IsIn y rs → IsIn z rs
    moved_in y z rs e h = rw (sym e) h

-- ---- no faults

append_empty : {A : Type 0} (xs ys : List A) → xs ++ ys ≡ [] → (xs ≡ []) × (ys ≡ [])
append_empty [] ys e = (refl, e)
append_empty (x ∷ xs) ys e = absurd (cc)

check_empty : {F : Type 0} (b : Bool) (f : F) → check b f ≡ [] → b ≡ false
check_empty true f e = absurd (cc)
check_empty false f e = refl

-- what holds of each item where no fault is found
each_item : {X : Type 0} (l : X → LevelName) (others : X → List ResolveFault) (s : Dims) (earlier xs : List X) → in_turn (item_faults l others s) earlier xs ≡ [] → Each (λ x. others x ≡ []) xs
each_item l others s earlier [] e = tt
each_item l others s earlier (x ∷ xs) e =
    let a = append_empty (item_faults l others s earlier x) (in_turn (item_faults l others s) (earlier ++ x ∷ []) xs) e in
    let b = append_empty (check (is_unknown (l x).dimension.text (dimension_names s)) (fault.UnknownDimension (l x).dimension.at)) (check (list_any (λ y. bytes_eq (l y).dimension.text (l x).dimension.text) earlier) (fault.DimensionTwice (l x).dimension.at) ++ others x) a.0 in
    let c = append_empty (check (list_any (λ y. bytes_eq (l y).dimension.text (l x).dimension.text) earlier) (fault.DimensionTwice (l x).dimension.at)) (others x) b.1 in
    (c.1, each_item l others s (earlier ++ x ∷ []) xs a.1)

-- a known name has a number within
known_within : (x : List ℕ) (xs : List (List ℕ)) → is_unknown x xs ≡ false → number x xs < length xs
known_within x xs e = tested (ltb (position_or_len (bytes_eq x) xs) (length xs))
    (λ t. rw t (ltb-true (position_or_len (bytes_eq x) xs) (length xs) t))
    (λ t. absurd (false≢true (sym e ∙ rw t refl)))

-- what is said of a dimension is said by an item that names it
pub record SaidBy {X V : Type 0} (l : X → LevelName) (value : NamedDimension → X → V) (P : X → Type 0) (xs : List X) (d : NamedDimension) : Type 0 where
  pub item : X
  pub is : said_of l value xs d ≡ Some (value d item)
  pub names : (l item).dimension.text ≡ d.name
  pub holds : P item

said_cases : {X V : Type 0} (l : X → LevelName) (value : NamedDimension → X → V) (P : X → Type 0) (xs : List X) (d : NamedDimension) → Each P xs → (said_of l value xs d ≡ None) ⊎ SaidBy l value P xs d
said_cases l value P [] d e = inl refl
said_cases l value P (x ∷ xs) d e = tested (bytes_eq (l x).dimension.text d.name)
    (λ t. inr (record { item = x; is = rw t refl; names = bytes_same (l x).dimension.text d.name t; holds = e.0 }))
    (λ t. elim (said_cases l value P xs d e.1) [
      | inl n ↦ inl (rw t n)
      | inr b ↦ inr (record { item = b.item; is = rw t (b.is); names = b.names; holds = b.holds })
    ])

group_within : (s : Dims) (q : Query) (d : NamedDimension) → named s d.name ≡ d → Each (λ x. level_faults s x ≡ []) q.by → group_at q d ≤ length d.levels
group_within s q d n e = elim (said_cases (λ x. x) level_in_dimension (λ x. level_faults s x ≡ []) q.by d e) [
  | inl a ↦ rw a (omega arith)
  | inr b ↦
      let known = check_empty (is_unknown b.item.level.text (named s b.item.dimension.text).levels) (fault.UnknownLevel b.item.level.at) b.holds in
      let k : is_unknown b.item.level.text d.levels ≡ false = rw (b.names, n) at known in
      let w = known_within b.item.level.text d.levels k in
      rw b.is (omega (arith, w))
]

pick_ok : (s : Dims) (q : Query) (d : NamedDimension) → named s d.name ≡ d → Each (λ x. level_faults s x ≡ []) q.by → Each (λ x. pick_faults s x ≡ []) q.picks → is_level (plain d) (pick_at q d) (group_at q d) ≡ true
pick_ok s q d n e f = elim (said_cases (λ x. x.level) pick_in_dimension (λ x. pick_faults s x ≡ []) q.picks d f) [
  | inl a ↦ rw a (le-leb (group_at q d) (length d.levels) (group_within s q d n e))
  | inr b ↦
      let x = b.item in
      let a = append_empty (level_faults s x.level) (member_faults s x.level x.first ++ (member_faults s x.level x.last ++ order_faults s x)) b.holds in
      let c = append_empty (member_faults s x.level x.first) (member_faults s x.level x.last ++ order_faults s x) a.1 in
      let g = append_empty (member_faults s x.level x.last) (order_faults s x) c.1 in
      let level_known = check_empty (is_unknown x.level.level.text (named s x.level.dimension.text).levels) (fault.UnknownLevel x.level.level.at) a.0 in
      let last_known = check_empty (is_unknown x.last.text (members_at s x.level)) (fault.UnknownMember x.last.at) g.0 in
      let in_order = check_empty (nat_lt (number x.last.text (members_at s x.level)) (number x.first.text (members_at s x.level))) (fault.Backwards x.first.at) g.1 in
      let k : is_unknown x.level.level.text d.levels ≡ false = rw (b.names, n) at level_known in
      let m : is_unknown x.last.text (members d (number x.level.level.text d.levels)) ≡ false = rw (b.names, n) at last_known in
      let o : nat_lt (number x.last.text (members d (number x.level.level.text d.levels))) (number x.first.text (members d (number x.level.level.text d.levels))) ≡ false = rw (b.names, n) at in_order in
      rw (
        b.is,
        le-leb (group_at q d) (length d.levels) (group_within s q d n e),
        lt-ltb (number x.level.level.text d.levels) (length d.levels) (known_within x.level.level.text d.levels k),
        le-leb (number x.first.text (members d (number x.level.level.text d.levels))) (number x.last.text (members d (number x.level.level.text d.levels))) (ltb-false (number x.last.text (members d (number x.level.level.text d.levels))) (number x.first.text (members d (number x.level.level.text d.levels))) o),
        lt-ltb (number x.last.text (members d (number x.level.level.text d.levels))) (length (members d (number x.level.level.text d.levels))) (known_within x.last.text (members d (number x.level.level.text d.levels)) m),
      ) refl
]

all_fits : (s : Dims) (q : Query) → Once (dimension_names s) → Each (λ x. level_faults s x ≡ []) q.by → Each (λ x. pick_faults s x ≡ []) q.picks → (before ds : List NamedDimension) → s.dimensions ≡ before ++ ds → fits (map plain ds) (map (group_at q) ds) (map (pick_at q) ds) ≡ true
all_fits s q o e f before [] i = refl
all_fits s q o e f before (d ∷ ds) i =
    let h = stands_at s before d ds o i in
    rw (pick_ok s q d h.named e f, all_fits s q o e f (before ++ d ∷ []) ds (i ∙ sym (append_assoc before (d ∷ []) ds))) refl

ungrouped : (q : Query) (ds : List NamedDimension) → q.by ≡ [] → is_grouped (map plain ds) (map (group_at q) ds) ≡ false
ungrouped q [] e = refl
ungrouped q (d ∷ ds) e = rw (e, le-ltb (length d.levels) (length d.levels) (omega arith)) (ungrouped q ds e)

ones : (q : Query) (ds : List NamedDimension) → Each OneMember q.picks → list_all is_one (map (pick_at q) ds) ≡ true
ones q [] e = refl
ones q (d ∷ ds) e = elim (said_cases (λ x. x.level) pick_in_dimension OneMember q.picks d e) [
  | inl a ↦ rw a (ones q ds e)
  | inr b ↦ rw (b.is, b.holds, eq-eqb (number b.item.last.text (members d (number b.item.level.level.text d.levels))) (number b.item.last.text (members d (number b.item.level.level.text d.levels))) refl) (ones q ds e)
]

or_right : (x : Bool) → x || true ≡ true
or_right true = refl
or_right false = refl

what_there : (s : Dims) (x : Name) → what_faults s x ≡ [] → is_there s (what_of s x.text) ≡ true
what_there s x e = tested (is_count x.text)
    (λ t. rw t refl)
    (λ t. let k = check_empty (not (is_count x.text) && is_unknown x.text (measure_names s)) (fault.UnknownMeasure x.at) e in
    let u : is_unknown x.text (measure_names s) ≡ false = rw t at k in
    let w = known_within x.text (measure_names s) u in
    rw t (lt-ltb (number x.text (measure_names s)) (length s.measures) (omega (arith, w, length-map s.measures (λ m. m.name)))))

valid : (s : Dims) (q : Query) → IsDims s → Shape q → query_faults s q ≡ [] → is_request s (request_in s q) ≡ true
unfolding is_request
valid s q h shape e =
    let a = append_empty (what_faults s q.what) (by_faults s q.by ++ picks_faults s q.picks) e in
    let b = append_empty (by_faults s q.by) (picks_faults s q.picks) a.1 in
    let by = each_item (λ x. x) (level_faults s) s [] q.by b.0 in
    let picks = each_item (λ x. x.level) (pick_faults s) s [] q.picks b.1 in
    let f = all_fits s q (once (dimension_names s) h.distinct_dimensions) by picks [] s.dimensions refl in
    let t = what_there s q.what a.0 in
    elim shape [
      | inl n ↦ rw (f, t, ungrouped q s.dimensions n) refl
      | inr o ↦ rw (f, t, ones q s.dimensions o) (or_right (not (is_grouped (plains s) (map (group_at q) s.dimensions))))
    ]

-- what a reading gives
record Given (s : Dims) (text : List ℕ) (r : Request) : Type 0 where
  pub query : Query
  pub is : IsIn query (queries text)
  pub resolves : resolved s query ≡ Ok r

given_by : (s : Dims) (text : List ℕ) (qs : List Query) (r : Request) → ((q : Query) → IsIn q qs → IsIn q (queries text)) → requested s (read_or (syntax_at text) qs) ≡ Ok r → Given s text r
given_by s text [] r f e = absurd (cc)
given_by s text (q ∷ qs) r f e = record { query = q; is = f q (inl refl); resolves = go (resolved s q) e }
  where
    go : (x : Result Request ResolveFault) → with_fault x ≡ Ok r → x ≡ Ok r
    go (Ok p) e = let k : p ≡ r = cc in ap (λ z. Ok z) k
    go (Err f) e = absurd (cc)

given : (s : Dims) (text : List ℕ) (r : Request) → request_of s text ≡ Ok r → Given s text r
unfolding request_of query_of
given s text r e = given_by s text (queries text) r (λ q i. i) e

no_faults : (fs : List ResolveFault) (x r : Request) → unless fs x ≡ Ok r → (fs ≡ []) × (x ≡ r)
no_faults [] x r e = (refl, cc)
no_faults (f ∷ fs) x r e = absurd (cc)

resolved_valid : (s : Dims) (text : List ℕ) (q : Query) (r : Request) → IsDims s → IsIn q (queries text) → resolved s q ≡ Ok r → is_request s r ≡ true
unfolding resolved
resolved_valid s text q r h i e =
    let a = no_faults (query_faults s q) (request_in s q) r e in
    let v = valid s q h (shape_of text q i) a.0 in
    let P : Request → Type 0 = λ z. is_request s z ≡ true in
    subst P a.1 v

pub read_is_valid : ReadIsValid
read_is_valid s text r h e = let g = given s text r e in resolved_valid s text g.query r h g.is g.resolves
