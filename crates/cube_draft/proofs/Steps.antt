-- The columns of a fact file, record by record, and dimensions made of them.
use Rattle.std.proofs.Common.{true, ◌≡◌, ◌<◌, ◌≤◌, ℕ, suc, ◌+◌, Bool, false, List, [], ◌∷◌, ◌++◌, length, map, take, get_or, slice_set, refl, sym, ap, ap₂, subst, ◌∙◌, arith, ltb, length-append}
use Rattle.std.proofs.Math.ListN.{get_or-append}
use Rattle.std.proofs.lemmas.List.{take_more, map_more, take_all, get_or-map, get_or_default, map-append, append_assoc, append-nil, get_or-set_same, get_or-set_other, get_or-append-add}
use Rattle.std.proofs.lemmas.Bool.{ltb-true, ltb-false}
use Rattle.cube_model.proofs.Members.{tested}
use Rattle.cube_facts.specs.Records.{records_of}
use Rattle.cube_model.specs.Dims.{Dims, NamedDimension, dimension_at}
use Rattle.cube_draft.specs.Drafts.{field_of, path_of, IsAmong, IsMade, AreTrue}
use Rattle.cube_draft.specs.Kept.{Begins, Holds, Scanned, Shown, AreNumbers, IsNumber, IsMarked, Grows, IsKept, kept_path}

-- ---- lists that are compared item by item

-- one item more is what its place says
pub compared_more : (f : ℕ → List ℕ) (xs : List (List ℕ)) (places : List ℕ) (i : ℕ) (x : List ℕ) → i < length xs → length xs ≡ length places
    → take i xs ≡ map f (take i places) → x ≡ get_or xs i x → x ≡ f (get_or places i 0) → take (i + 1) xs ≡ map f (take (i + 1) places)
compared_more f xs places i x l long so_far at same =
    take_more xs i x l ∙ ap₂ (λ (ys : List (List ℕ)) (y : List ℕ). ys ++ y ∷ []) so_far (sym at ∙ same) ∙ sym (map_more f places i 0 (omega (arith, l, long)))

-- all of them are
pub compared_all : (f : ℕ → List ℕ) (xs : List (List ℕ)) (places : List ℕ) (i : ℕ) → length xs ≤ i → length xs ≡ length places
    → take i xs ≡ map f (take i places) → xs ≡ map f places
compared_all f xs places i l long so_far = sym (take_all i xs l) ∙ so_far ∙ ap (map f) (take_all i places (omega (arith, l, long)))

-- what holds below a number and at it holds below the next
pub one_more : (P : ℕ → Type 0) (n : ℕ) → ((k : ℕ) → k < n → P k) → P n → (k : ℕ) → k < n + 1 → P k
one_more P n before here k l =
    tested (ltb k n) (λ t. before k (ltb-true k n t)) (λ f. let not_less = ltb-false k n f in let same : n ≡ k = omega (arith, l, not_less) in subst P same here)

-- ---- one record more

-- a record is kept in the columns before a place, and not yet in those behind
pub record Pushed (members : List Bool) (fields : List (List ℕ)) (old new : List (List (List ℕ))) (place : ℕ) : Type 0 where
  pub before : (k : ℕ) → k < place → IsMarked members k → get_or new k [] ≡ get_or old k [] ++ field_of k fields ∷ []
  pub behind : (k : ℕ) → place ≤ k → get_or new k [] ≡ get_or old k []

pub pushed_start : (members : List Bool) (fields : List (List ℕ)) (old : List (List (List ℕ))) → Pushed members fields old old 0
pushed_start members fields old = record {
  before = λ k l m. absurd (omega (arith, l));
  behind = λ k l. refl;
}

-- a column with members
pub pushed_marked : (members : List Bool) (fields : List (List ℕ)) (old new more : List (List (List ℕ))) (place : ℕ) (column : List (List ℕ))
    → Pushed members fields old new place → place < length new → column ≡ get_or new place [] ++ field_of place fields ∷ [] → more ≡ slice_set new place column
    → Pushed members fields old more (place + 1)
pushed_marked members fields old new more place column p within grown is = record {
  before = one_more (λ k. IsMarked members k → get_or more k [] ≡ get_or old k [] ++ field_of k fields ∷ []) place
      (λ k l m. ap (λ xs. get_or xs k []) is ∙ get_or-set_other new place k column [] (omega (arith, l)) ∙ p.before k l m)
      (λ m. ap (λ xs. get_or xs place []) is ∙ get_or-set_same new place column [] within ∙ grown ∙ ap (λ xs. xs ++ field_of place fields ∷ []) (p.behind place (omega arith)));
  behind = λ k l. ap (λ xs. get_or xs k []) is ∙ get_or-set_other new place k column [] (omega (arith, l)) ∙ p.behind k (omega (arith, l));
}

-- a column of numbers
pub pushed_unmarked : (members : List Bool) (fields : List (List ℕ)) (old new : List (List (List ℕ))) (place : ℕ)
    → Pushed members fields old new place → get_or members place false ≡ false → Pushed members fields old new (place + 1)
pushed_unmarked members fields old new place p is = record {
  before = one_more (λ k. IsMarked members k → get_or new k [] ≡ get_or old k [] ++ field_of k fields ∷ []) place p.before (λ m. absurd (cc));
  behind = λ k l. p.behind k (omega (arith, l));
}

-- ---- numbers

-- the fields of a record before a place are numbers, where all are sound
pub record Noted (members : List Bool) (old new : List ℕ) (fields : List (List ℕ)) (place : ℕ) : Type 0 where
  pub steady : new ≡ old
  pub before : (k : ℕ) → k < place → get_or members k false ≡ false → IsNumber (get_or old k 0) (field_of k fields)

pub noted_start : (members : List Bool) (old : List ℕ) (fields : List (List ℕ)) → Noted members old old fields 0
noted_start members old fields = record { steady = refl; before = λ k l m. absurd (omega (arith, l)) }

pub noted_more : (members : List Bool) (old new more : List ℕ) (fields : List (List ℕ)) (place : ℕ)
    → Noted members old new fields place → more ≡ new → (get_or members place false ≡ false → IsNumber (get_or new place 0) (field_of place fields)) → Noted members old more fields (place + 1)
noted_more members old new more fields place n same here = record {
  steady = same ∙ n.steady;
  before = one_more (λ k. get_or members k false ≡ false → IsNumber (get_or old k 0) (field_of k fields)) place n.before
      (λ m. subst (λ ds. IsNumber (get_or ds place 0) (field_of place fields)) n.steady (here m));
}

-- ---- all records

-- what holds of each item holds with one item more
pub all_more : {X : Type 0} (P : X → Type 0) (xs : List X) (x d : X) → ((i : ℕ) → i < length xs → P (get_or xs i d)) → P x → (i : ℕ) → i < length (xs ++ x ∷ []) → P (get_or (xs ++ x ∷ []) i d)
all_more P xs x d before here i l = tested (ltb i (length xs))
    (λ t. let below = ltb-true i (length xs) t in subst P (sym (get_or-append xs (x ∷ []) d i below)) (before i below))
    (λ f. (
    let long = length-append xs (x ∷ []) in
    let not_less = ltb-false i (length xs) f in
    let at : length xs + 0 ≡ i = omega (arith, long, l, not_less) in
    subst P (sym (ap (λ (n : ℕ). get_or (xs ++ x ∷ []) n d) (sym at) ∙ get_or-append-add xs (x ∷ []) 0 d)) here))

-- how the columns stand behind some records
pub record Passed (bytes : List ℕ) (members : List Bool) (fields : List (List (List ℕ))) (count width : ℕ) (decimals : List ℕ) (sound : Bool) (left : List (List (List ℕ))) : Type 0 where
  pub header : List (List ℕ)
  pub earlier : List (List (List ℕ))
  pub counted : count ≡ length earlier
  pub records : records_of bytes ≡ header ∷ (earlier ++ left)
  pub held : (k : ℕ) → k < length members → IsMarked members k → get_or fields k [] ≡ map (field_of k) earlier
  pub width_is : width ≡ length header
  pub few : count ≤ 1000000
  pub wide : (i : ℕ) → i < length earlier → length (get_or earlier i []) ≡ width
  pub numbers : sound ≡ true → (i : ℕ) → i < length earlier → AreNumbers members decimals (get_or earlier i [])

pub passed_start : (bytes : List ℕ) (members : List Bool) (fields : List (List (List ℕ))) (width : ℕ) (decimals : List ℕ) (sound : Bool) (header : List (List ℕ)) (left : List (List (List ℕ)))
    → records_of bytes ≡ header ∷ left → ((k : ℕ) → get_or fields k [] ≡ []) → width ≡ length header → Passed bytes members fields 0 width decimals sound left
passed_start bytes members fields width decimals sound header left is empty wide = record {
  header = header;
  earlier = [];
  counted = refl;
  records = is;
  held = λ k l m. empty k;
  width_is = wide;
  few = omega arith;
  wide = λ i l. absurd (omega (arith, l));
  numbers = λ yes i l. absurd (omega (arith, l));
}

-- what is noted of one record more
pub record Adds (members : List Bool) (width count : ℕ) (decimals more : List ℕ) (sound still : Bool) (f : List (List ℕ)) : Type 0 where
  pub few : count < 1000000
  pub wide : length f ≡ width
  pub before : still ≡ true → sound ≡ true
  pub steady : still ≡ true → more ≡ decimals
  pub numbers : still ≡ true → AreNumbers members decimals f

pub passed_more : (bytes : List ℕ) (members : List Bool) (fields more : List (List (List ℕ))) (count width : ℕ) (decimals further : List ℕ) (sound still : Bool) (left behind : List (List (List ℕ))) (f : List (List ℕ))
    → Passed bytes members fields count width decimals sound left → left ≡ f ∷ behind → Grows members f fields more → Adds members width count decimals further sound still f → Passed bytes members more (count + 1) width further still behind
passed_more bytes members fields more count width decimals further sound still left behind f p next grows adds = record {
  header = p.header;
  earlier = p.earlier ++ f ∷ [];
  counted = rw (length-append p.earlier (f ∷ [])) (ap (λ (n : ℕ). n + 1) p.counted);
  records = p.records ∙ ap (λ (rows : List (List (List ℕ))). p.header ∷ (p.earlier ++ rows)) next ∙ ap (λ (rows : List (List (List ℕ))). p.header ∷ rows) (sym (append_assoc p.earlier (f ∷ []) behind));
  held = λ k l m. grows k l m ∙ ap (λ (xs : List (List ℕ)). xs ++ field_of k f ∷ []) (p.held k l m) ∙ sym (map-append (field_of k) p.earlier (f ∷ []));
  width_is = p.width_is;
  few = let few = adds.few in omega (arith, few);
  wide = all_more (λ (x : List (List ℕ)). length x ≡ width) p.earlier f [] p.wide adds.wide;
  numbers = λ yes. subst (λ (ds : List ℕ). (i : ℕ) → i < length (p.earlier ++ f ∷ []) → AreNumbers members ds (get_or (p.earlier ++ f ∷ []) i [])) (sym (adds.steady yes))
      (all_more (AreNumbers members decimals) p.earlier f [] (p.numbers (adds.before yes)) (adds.numbers yes));
}

pub passed_end : (bytes : List ℕ) (members : List Bool) (fields : List (List (List ℕ))) (count width : ℕ) (decimals : List ℕ) (sound : Bool) (left : List (List (List ℕ)))
    → Passed bytes members fields count width decimals sound left → left ≡ [] → Scanned bytes members fields count decimals sound
passed_end bytes members fields count width decimals sound left p none =
    let is : records_of bytes ≡ p.header ∷ p.earlier = p.records ∙ ap (λ (rows : List (List (List ℕ))). p.header ∷ (p.earlier ++ rows)) none ∙ ap (λ (rows : List (List (List ℕ))). p.header ∷ rows) (append-nil p.earlier) in
    let holds : Holds bytes p.header members fields count = record { rows = p.earlier; records = is; counted = p.counted; held = p.held } in
    record {
      header = p.header;
      holds = holds;
      shown = λ yes. record {
        holds = holds;
        seen = record {
          few = let counted = p.counted in let few = p.few in omega (arith, counted, few);
          wide = λ i l. p.wide i l ∙ p.width_is;
          numbers = p.numbers yes;
        };
      };
    }

-- ---- dimensions that are made of columns

-- a path that stands in its place
pub among : (paths : List (List (List ℕ))) (path is : List (List ℕ)) (leaf : ℕ) → leaf < length paths → path ≡ get_or paths leaf path → path ≡ is → IsAmong paths is
among paths path is leaf within at same = record { leaf = leaf; within = within; is = sym (at ∙ get_or_default paths leaf path [] within) ∙ same }

module _ (header : List (List ℕ)) (members : List Bool) (fields : List (List (List ℕ))) (rows : List (List (List ℕ)))
    (held : (k : ℕ) → k < length members → IsMarked members k → get_or fields k [] ≡ map (field_of k) rows) where
  -- the path of a row that is kept is that of its record
  pub same_path : (places : List ℕ) (row : ℕ) → row < length rows → ((k : ℕ) → k < length places → (get_or places k 0 < length members) × IsMarked members (get_or places k 0))
      → kept_path fields places row ≡ path_of places (get_or rows row [])
  same_path [] row l marked = refl
  same_path (p ∷ ps) row l marked =
      let mark = marked 0 (omega arith) in
      let first : get_or (get_or fields p []) row [] ≡ field_of p (get_or rows row []) =
      ap (λ (xs : List (List ℕ)). get_or xs row []) (held p mark.0 mark.1) ∙ get_or-map (field_of p) rows row [] [] l in
      ap₂ (λ (x : List ℕ) (xs : List (List ℕ)). x ∷ xs) first (same_path ps row l (λ k lk. marked (suc k) (omega (arith, lk))))

  -- what is kept as a dimension is one of the file
  made : (d : NamedDimension) (many : ℕ) → many ≡ length rows → IsKept header members fields many d → IsMade header rows d
  made d many counted kept = record {
    places = kept.places;
    levels = kept.levels;
    column = kept.column;
    paths = λ row l. let among = kept.paths row (omega (arith, l, counted)) in
        record { leaf = among.leaf; within = among.within; is = among.is ∙ same_path kept.places row l kept.marked };
  }

-- the dimensions of which each is made of columns that are kept
pub true_of : (s : Dims) (bytes : List ℕ) (header : List (List ℕ)) (members : List Bool) (fields : List (List (List ℕ))) (many n : ℕ)
    → Holds bytes header members fields many → length s.dimensions ≤ n → ((k : ℕ) → k < n → IsKept header members fields many (dimension_at s k)) → AreTrue bytes s
true_of s bytes header members fields many n holds long kept = record {
  header = header;
  rows = holds.rows;
  records = holds.records;
  each = λ i l. made header members fields holds.rows holds.held (dimension_at s i) many holds.counted (kept i (omega (arith, l, long)));
}

-- the header is the one that a file begins with
pub one_header : (bytes : List ℕ) (h header : List (List ℕ)) (more rows : List (List (List ℕ))) → records_of bytes ≡ h ∷ more → records_of bytes ≡ header ∷ rows → h ≡ header
one_header bytes h header more rows a b = let same : h ∷ more ≡ header ∷ rows = sym a ∙ b in cc

pub same_header : (bytes : List ℕ) (h header : List (List ℕ)) (more rows : List (List (List ℕ))) → records_of bytes ≡ h ∷ more → records_of bytes ≡ header ∷ rows → records_of bytes ≡ header ∷ more
same_header bytes h header more rows a b = a ∙ ap (λ (x : List (List ℕ)). x ∷ more) (one_header bytes h header more rows a b)

module _ (bytes : List ℕ) (header : List (List ℕ)) (members : List Bool) (fields : List (List (List ℕ))) (many : ℕ) (decimals : List ℕ) (sound : Bool) (b : Begins bytes header) (s : Scanned bytes members fields many decimals sound) where
  -- what a scan holds, under the header that was read
  pub under_header : Holds bytes header members fields many
  under_header = record {
    rows = s.holds.rows;
    records = same_header bytes s.header header s.holds.rows b.rows s.holds.records b.records;
    counted = s.holds.counted;
    held = s.holds.held;
  }

  -- and what it has seen
  pub shown_under : sound ≡ true → Shown bytes header members fields many decimals
  shown_under is_sound = subst (λ (h : List (List ℕ)). Shown bytes h members fields many decimals) (one_header bytes s.header header s.holds.rows b.rows s.holds.records b.records) (s.shown is_sound)
