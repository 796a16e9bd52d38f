-- Canonical texts are texts of the grammar.
use Rattle.std.proofs.Common.{◌≡◌, inl, ℕ, suc, ◌-◌, Bool, true, false, leb, eqb, List, [], ◌∷◌, ◌++◌, length, refl, sym, ap, subst, append_assoc, append-nil}
use Rattle.std.specs.Prelude.{Option, Some, None, codes}
use Rattle.std.specs.List.{list_all, list_any, flat_map}
use Rattle.std.proofs.lemmas.Bool.{false≢true, and_parts}
use Rattle.cube_model.specs.Cubes.{IsIn}
use Rattle.cube_model.proofs.Members.{tested, append_left, append_right}
use Rattle.cube_model.specs.Names.{is_control}
use Rattle.cube_model.specs.Dims.{NamedDimension}
use Rattle.cube_text.specs.Quoting.{is_bare, is_bare_name, spelled, quoted, printed}
use Rattle.cube_query.specs.declared.query.Name.{Name}
use Rattle.cube_query.specs.declared.query.LevelName.{LevelName}
use Rattle.cube_query.specs.declared.query.PickName.{PickName}
use Rattle.cube_query.specs.Grammar.{Part, byte, nothing, ◌>>=◌, either, up_to, many, some, word, is_blank, ws, sp, sign, items, quoted_byte, quoted_name, name, level, fix, span}
use Rattle.cube_query.specs.Grammar.Reading.{Reads}
use Rattle.cube_query.specs.Canonical.{behind}
use Rattle.cube_query.proofs.Parts.{Eats, bind_has, byte_has, fuel, same_byte}
use Rattle.cube_query.proofs.Blanks.{many_has}
use Rattle.cube_query.proofs.Names.{bare_or_quoted, many_spells}
use Rattle.cube_query.proofs.Lists.{comma_then}

pub record Found {A : Type 0} (f : ℕ → Part A) (P : A → Type 0) (n : ℕ) (w rest : List ℕ) : Type 0 where
  pub value : A
  pub is : IsIn (Reads value rest) (f n (w ++ rest))
  pub holds : P value

-- the text w reads as the part, whatever stands behind it, with a value of which P holds
pub record HasReading {A : Type 0} (f : ℕ → Part A) (P : A → Type 0) (w : List ℕ) : Type 0 where
  pub reads : (n : ℕ) (rest : List ℕ) → Found f P n w rest

pub has_as : {A : Type 0} (f : ℕ → Part A) (P : A → Type 0) (w v : List ℕ) → w ≡ v → HasReading f P w → HasReading f P v
has_as f P w v e h = let Q : List ℕ → Type 0 = λ t. HasReading f P t in subst Q e h

pub has_bind : {A B : Type 0} (f : ℕ → Part A) (g : ℕ → A → Part B) (P : A → Type 0) (Q : B → Type 0) (w v : List ℕ) → HasReading f P w → ((x : A) → P x → HasReading (λ n. g n x) Q v) → HasReading (λ n. f n >>= g n) Q (w ++ v)
has_bind f g P Q w v F G = record {
  reads = λ n rest. let a = F.reads n (v ++ rest) in let b = (G a.value a.holds).reads n rest in record {
    value = b.value;
    is = bind_has (f n) (g n) (Reads b.value rest) ((w ++ v) ++ rest) a.value (v ++ rest) (rw (append_assoc w v rest) (a.is)) b.is;
    holds = b.holds;
  };
}

pub has_nothing : {A : Type 0} (x : A) (P : A → Type 0) → P x → HasReading (λ n. nothing x) P []
has_nothing x P h = record { reads = λ n rest. record { value = x; is = inl refl; holds = h } }

abbrev pub Any : {A : Type 0} → A → Type 0
Any x = Unit {0}

has_byte : (p : ℕ → Bool) (b : ℕ) → p b ≡ true → HasReading (λ n. byte p) Any (b ∷ [])
has_byte p b e = record { reads = λ n rest. record { value = b; is = byte_has p b rest e; holds = tt } }

pub has_word : (cs : List ℕ) → HasReading (λ n. word cs) Any cs
has_word [] = has_nothing [] Any tt
has_word (c ∷ cs) = has_bind (λ n. byte (λ b. eqb b c)) (λ n _. word cs) Any Any (c ∷ []) cs (has_byte (λ b. eqb b c) c (same_byte c)) (λ _ _. has_word cs)

pub has_left : {A : Type 0} (f g : ℕ → Part A) (P : A → Type 0) (w : List ℕ) → HasReading f P w → HasReading (λ n. either (f n) (g n)) P w
has_left f g P w F = record { reads = λ n rest. let a = F.reads n rest in record { value = a.value; is = append_left (Reads a.value rest) (f n (w ++ rest)) (g n (w ++ rest)) a.is; holds = a.holds } }

pub has_right : {A : Type 0} (f g : ℕ → Part A) (P : A → Type 0) (w : List ℕ) → HasReading g P w → HasReading (λ n. either (f n) (g n)) P w
has_right f g P w G = record { reads = λ n rest. let a = G.reads n rest in record { value = a.value; is = append_right (Reads a.value rest) (f n (w ++ rest)) (g n (w ++ rest)) a.is; holds = a.holds } }

pub has_no_blank : HasReading (λ n. ws) Any []
has_no_blank = record { reads = λ n rest. record { value = []; is = inl refl; holds = tt } }

has_blank : HasReading (λ n. ws) Any (32 ∷ [])
has_blank = record { reads = λ n rest. record { value = 32 ∷ []; is = many_has is_blank (32 ∷ []) rest (32 ∷ rest) (record { is = refl; all = refl }); holds = tt } }

pub has_gap : HasReading (λ n. sp) Any (32 ∷ [])
has_gap = has_bind (λ n. byte is_blank) (λ n x. many (byte is_blank) >>= λ xs. nothing (x ∷ xs)) Any Any (32 ∷ []) [] (has_byte is_blank 32 refl)
    (λ x _. has_bind (λ n. ws) (λ n xs. nothing (x ∷ xs)) Any Any [] [] has_no_blank (λ xs _. has_nothing (x ∷ xs) Any tt))

has_sign : (cs : List ℕ) → HasReading (λ n. sign cs) Any cs
has_sign cs = has_as (λ n. sign cs) Any (cs ++ []) cs (append-nil cs)
    (has_bind (λ n. ws) (λ n _. word cs >>= λ _. ws) Any Any [] (cs ++ []) has_no_blank (λ _ _. has_bind (λ n. word cs) (λ n _. ws) Any Any cs [] (has_word cs) (λ _ _. has_no_blank)))

has_comma : HasReading (λ n. sign (codes ",")) Any (codes ", ")
has_comma = has_bind (λ n. ws) (λ n _. word (codes ",") >>= λ _. ws) Any Any [] (codes ", ") has_no_blank (λ _ _. has_bind (λ n. word (codes ",")) (λ n _. ws) Any Any (codes ",") (32 ∷ []) (has_word (codes ",")) (λ _ _. has_blank))

-- ---- names

has_run : (p : ℕ → Bool) (x : List ℕ) → list_all p x ≡ true → HasReading (λ n. many (byte p)) (λ y. y ≡ x) x
has_run p x e = record { reads = λ n rest. record { value = x; is = many_has p x rest (x ++ rest) (record { is = refl; all = e }); holds = refl } }

has_this_byte : (p : ℕ → Bool) (b : ℕ) → p b ≡ true → HasReading (λ n. byte p) (λ x. x ≡ b) (b ∷ [])
has_this_byte p b e = record { reads = λ n rest. record { value = b; is = byte_has p b rest e; holds = refl } }

bare_text : (x : List ℕ) → is_bare_name x ≡ true → HasReading (λ n. some (byte is_bare)) (λ y. y ≡ x) x
bare_text [] e = absurd (false≢true e)
bare_text (b ∷ bs) e =
    let a = (and_parts (leb 1 (length (b ∷ bs))) (list_all is_bare (b ∷ bs)) e).1 in
    let p = and_parts (is_bare b) (list_all is_bare bs) a in
    has_as (λ n. some (byte is_bare)) (λ y. y ≡ b ∷ bs) (b ∷ (bs ++ [])) (b ∷ bs) (ap (λ z. b ∷ z) (append-nil bs))
    (has_bind (λ n. byte is_bare) (λ n x. many (byte is_bare) >>= λ xs. nothing (x ∷ xs)) (λ x. x ≡ b) (λ y. y ≡ b ∷ bs) (b ∷ []) (bs ++ []) (has_this_byte is_bare b p.0)
    (λ x i. has_bind (λ n. many (byte is_bare)) (λ n xs. nothing (x ∷ xs)) (λ xs. xs ≡ bs) (λ y. y ≡ b ∷ bs) bs [] (has_run is_bare bs p.1)
    (λ xs j. has_nothing (x ∷ xs) (λ y. y ≡ b ∷ bs) (rw (i, j) refl))))

has_spelled : (x : List ℕ) → list_any is_control x ≡ false → HasReading (λ n. many quoted_byte) (λ y. y ≡ x) (flat_map spelled x)
has_spelled x c = record { reads = λ n rest. record { value = x; is = many_spells x rest (flat_map spelled x ++ rest) (record { is = refl; plain = c }); holds = refl } }

quoted_text : (x : List ℕ) → list_any is_control x ≡ false → HasReading (λ n. quoted_name) (λ y. y ≡ x) (quoted x)
quoted_text x c = has_bind (λ n. byte (λ b. eqb b 34)) (λ n _. many quoted_byte >>= λ y. byte (λ b. eqb b 34) >>= λ _. nothing y) Any (λ y. y ≡ x) (34 ∷ []) (flat_map spelled x ++ 34 ∷ []) (has_byte (λ b. eqb b 34) 34 refl)
    (λ _ _. has_bind (λ n. many quoted_byte) (λ n y. byte (λ b. eqb b 34) >>= λ _. nothing y) (λ y. y ≡ x) (λ y. y ≡ x) (flat_map spelled x) (34 ∷ []) (has_spelled x c)
    (λ y i. has_bind (λ n. byte (λ b. eqb b 34)) (λ n _. nothing y) Any (λ y. y ≡ x) (34 ∷ []) [] (has_byte (λ b. eqb b 34) 34 refl) (λ _ _. has_nothing y (λ y. y ≡ x) i)))

text_reads : (x : List ℕ) → list_any is_control x ≡ false → HasReading (λ n. bare_or_quoted n) (λ y. y ≡ x) (printed x)
text_reads x c = tested (is_bare_name x)
    (λ e. has_as (λ n. bare_or_quoted n) (λ y. y ≡ x) x (printed x) (sym (rw e refl)) (has_left (λ n. some (byte is_bare)) (λ n. quoted_name) (λ y. y ≡ x) x (bare_text x e)))
    (λ e. has_as (λ n. bare_or_quoted n) (λ y. y ≡ x) (quoted x) (printed x) (sym (rw e refl)) (has_right (λ n. some (byte is_bare)) (λ n. quoted_name) (λ y. y ≡ x) (quoted x) (quoted_text x c)))

abbrev pub Names : List ℕ → Name → Type 0
Names x y = y.text ≡ x

pub has_name : (x : List ℕ) → list_any is_control x ≡ false → HasReading (λ n. name n) (Names x) (printed x)
has_name x c = record {
  reads = λ n rest. let a = (text_reads x c).reads n rest in record {
    value = record { text = a.value; at = n - length (printed x ++ rest) };
    is = bind_has (bare_or_quoted n) (λ y. nothing (record { text = y; at = n - length (printed x ++ rest) })) (Reads (record { text = a.value; at = n - length (printed x ++ rest) }) rest) (printed x ++ rest) a.value rest a.is (inl refl);
    holds = a.holds;
  };
}

-- ---- levels and picks

abbrev pub LevelNames : List ℕ → List ℕ → LevelName → Type 0
LevelNames d l x = (x.dimension.text ≡ d) × (x.level.text ≡ l)

pub has_level : (d l : List ℕ) → list_any is_control d ≡ false → list_any is_control l ≡ false → HasReading (λ n. level n) (LevelNames d l) (printed d ++ 46 ∷ printed l)
has_level d l c e = has_as (λ n. level n) (LevelNames d l) (printed d ++ 46 ∷ (printed l ++ [])) (printed d ++ 46 ∷ printed l) (ap (λ z. printed d ++ 46 ∷ z) (append-nil (printed l)))
    (has_bind (λ n. name n) (λ n x. word (codes ".") >>= λ _. name n >>= λ y. nothing (record { dimension = x; level = y })) (Names d) (LevelNames d l) (printed d) (46 ∷ (printed l ++ [])) (has_name d c)
    (λ x i. has_bind (λ n. word (codes ".")) (λ n _. name n >>= λ y. nothing (record { dimension = x; level = y })) Any (LevelNames d l) (46 ∷ []) (printed l ++ []) (has_word (codes "."))
    (λ _ _. has_bind (λ n. name n) (λ n y. nothing (record { dimension = x; level = y })) (Names l) (LevelNames d l) (printed l) [] (has_name l e)
    (λ y j. has_nothing (record { dimension = x; level = y }) (LevelNames d l) (i, j)))))

abbrev pub PickNames : List ℕ → List ℕ → List ℕ → List ℕ → PickName → Type 0
PickNames d l x y p = (p.level.dimension.text ≡ d) × (p.level.level.text ≡ l) × (p.first.text ≡ x) × (p.last.text ≡ y)

pub has_fix : (d l x : List ℕ) → list_any is_control d ≡ false → list_any is_control l ≡ false → list_any is_control x ≡ false → HasReading (λ n. fix n) (PickNames d l x x) ((printed d ++ 46 ∷ printed l) ++ 61 ∷ printed x)
has_fix d l x c e f = has_as (λ n. fix n) (PickNames d l x x) ((printed d ++ 46 ∷ printed l) ++ 61 ∷ (printed x ++ [])) ((printed d ++ 46 ∷ printed l) ++ 61 ∷ printed x) (ap (λ z. (printed d ++ 46 ∷ printed l) ++ 61 ∷ z) (append-nil (printed x)))
    (has_bind (λ n. level n) (λ n k. sign (codes "=") >>= λ _. name n >>= λ y. nothing (record { level = k; first = y; last = y })) (LevelNames d l) (PickNames d l x x) (printed d ++ 46 ∷ printed l) (61 ∷ (printed x ++ [])) (has_level d l c e)
    (λ k i. has_bind (λ n. sign (codes "=")) (λ n _. name n >>= λ y. nothing (record { level = k; first = y; last = y })) Any (PickNames d l x x) (61 ∷ []) (printed x ++ []) (has_sign (codes "="))
    (λ _ _. has_bind (λ n. name n) (λ n y. nothing (record { level = k; first = y; last = y })) (Names x) (PickNames d l x x) (printed x) [] (has_name x f)
    (λ y j. has_nothing (record { level = k; first = y; last = y }) (PickNames d l x x) (i.0, i.1, j, j)))))

pub has_span : (d l x y : List ℕ) → list_any is_control d ≡ false → list_any is_control l ≡ false → list_any is_control x ≡ false → list_any is_control y ≡ false → HasReading (λ n. span n) (PickNames d l x y) ((printed d ++ 46 ∷ printed l) ++ 61 ∷ (printed x ++ (46 ∷ 46 ∷ printed y)))
has_span d l x y c e f g = has_as (λ n. span n) (PickNames d l x y) ((printed d ++ 46 ∷ printed l) ++ 61 ∷ (printed x ++ (46 ∷ 46 ∷ (printed y ++ [])))) ((printed d ++ 46 ∷ printed l) ++ 61 ∷ (printed x ++ (46 ∷ 46 ∷ printed y))) (ap (λ z. (printed d ++ 46 ∷ printed l) ++ 61 ∷ (printed x ++ (46 ∷ 46 ∷ z))) (append-nil (printed y)))
    (has_bind (λ n. level n) (λ n k. sign (codes "=") >>= λ _. name n >>= λ a. sign (codes "..") >>= λ _. name n >>= λ b. nothing (record { level = k; first = a; last = b })) (LevelNames d l) (PickNames d l x y) (printed d ++ 46 ∷ printed l) (61 ∷ (printed x ++ (46 ∷ 46 ∷ (printed y ++ [])))) (has_level d l c e)
    (λ k i. has_bind (λ n. sign (codes "=")) (λ n _. name n >>= λ a. sign (codes "..") >>= λ _. name n >>= λ b. nothing (record { level = k; first = a; last = b })) Any (PickNames d l x y) (61 ∷ []) (printed x ++ (46 ∷ 46 ∷ (printed y ++ []))) (has_sign (codes "="))
    (λ _ _. has_bind (λ n. name n) (λ n a. sign (codes "..") >>= λ _. name n >>= λ b. nothing (record { level = k; first = a; last = b })) (Names x) (PickNames d l x y) (printed x) (46 ∷ 46 ∷ (printed y ++ [])) (has_name x f)
    (λ a j. has_bind (λ n. sign (codes "..")) (λ n _. name n >>= λ b. nothing (record { level = k; first = a; last = b })) Any (PickNames d l x y) (46 ∷ 46 ∷ []) (printed y ++ []) (has_sign (codes ".."))
    (λ _ _. has_bind (λ n. name n) (λ n b. nothing (record { level = k; first = a; last = b })) (Names y) (PickNames d l x y) (printed y) [] (has_name y g)
    (λ b m. has_nothing (record { level = k; first = a; last = b }) (PickNames d l x y) (i.0, i.1, j, m)))))))

-- ---- lists of items, one for each dimension of which something is said

abbrev pub option_texts : {V : Type 0} → (NamedDimension → V → List ℕ) → List NamedDimension → List (Option V) → List (List ℕ)
option_texts t [] os = []
option_texts t (d ∷ ds) [] = []
option_texts t (d ∷ ds) (None ∷ os) = option_texts t ds os
option_texts t (d ∷ ds) (Some v ∷ os) = t d v ∷ option_texts t ds os

abbrev pub AreItems : {X V : Type 0} → (NamedDimension → V → X → Type 0) → List NamedDimension → List (Option V) → List X → Type 0
AreItems M [] os [] = Unit {0}
AreItems M [] os (x ∷ xs) = ⊥
AreItems M (d ∷ ds) [] [] = Unit {0}
AreItems M (d ∷ ds) [] (x ∷ xs) = ⊥
AreItems M (d ∷ ds) (None ∷ os) xs = AreItems M ds os xs
AreItems M (d ∷ ds) (Some v ∷ os) [] = ⊥
AreItems M (d ∷ ds) (Some v ∷ os) (x ∷ xs) = M d v x × AreItems M ds os xs

abbrev pub AllRead : {X V : Type 0} → (ℕ → Part X) → (NamedDimension → V → X → Type 0) → (NamedDimension → V → List ℕ) → List NamedDimension → List (Option V) → Type 0
AllRead f M t [] os = Unit {0}
AllRead f M t (d ∷ ds) [] = Unit {0}
AllRead f M t (d ∷ ds) (None ∷ os) = AllRead f M t ds os
AllRead f M t (d ∷ ds) (Some v ∷ os) = HasReading f (M d v) (t d v) × AllRead f M t ds os

many_more : {A : Type 0} (g : ℕ → Part A) → Eats g → (n : ℕ) (y : A) (ys : List A) (u t rest : List ℕ) → IsIn (Reads y t) (g n u) → IsIn (Reads ys rest) (many (g n) t) → IsIn (Reads (y ∷ ys) rest) (many (g n) u)
many_more g E n y ys u t rest p q = append_right (Reads (y ∷ ys) rest) (nothing [] u) ((g n >>= λ x. up_to (length u) (g n) >>= λ xs. nothing (x ∷ xs)) u)
    (bind_has (g n) (λ x. up_to (length u) (g n) >>= λ xs. nothing (x ∷ xs)) (Reads (y ∷ ys) rest) u y t p
    (bind_has (up_to (length u) (g n)) (λ xs. nothing (y ∷ xs)) (Reads (y ∷ ys) rest) t ys rest (fuel (g n) (λ t x r. E n t x r) (suc (length t)) (length u) t (Reads ys rest) (E n u y t p) q) (inl refl)))

has_more : {A : Type 0} (g : ℕ → Part A) (P : A → Type 0) (Q : List A → Type 0) (R : List A → Type 0) (w v : List ℕ) → Eats g → HasReading g P w → HasReading (λ n. many (g n)) Q v → ((y : A) (ys : List A) → P y → Q ys → R (y ∷ ys)) → HasReading (λ n. many (g n)) R (w ++ v)
has_more g P Q R w v E G H both = record {
  reads = λ n rest. let a = G.reads n (v ++ rest) in let b = H.reads n rest in record {
    value = a.value ∷ b.value;
    is = many_more g E n a.value b.value ((w ++ v) ++ rest) (v ++ rest) rest (rw (append_assoc w v rest) (a.is)) b.is;
    holds = both a.value b.value a.holds b.holds;
  };
}

has_none : {A : Type 0} (g : ℕ → Part A) (R : List A → Type 0) → R [] → HasReading (λ n. many (g n)) R []
has_none g R h = record { reads = λ n rest. record { value = []; is = inl refl; holds = h } }

rest_read : {X V : Type 0} (f : ℕ → Part X) (M : NamedDimension → V → X → Type 0) (t : NamedDimension → V → List ℕ) → Eats (λ n. comma_then f n) → (ds : List NamedDimension) (os : List (Option V)) → AllRead f M t ds os → HasReading (λ n. many (comma_then f n)) (AreItems M ds os) (behind (codes ", ") (option_texts t ds os))
rest_read f M t E [] os a = has_none (λ n. comma_then f n) (AreItems M [] os) tt
rest_read f M t E (d ∷ ds) [] a = has_none (λ n. comma_then f n) (AreItems M (d ∷ ds) []) tt
rest_read f M t E (d ∷ ds) (None ∷ os) a = rest_read f M t E ds os a
rest_read f M t E (d ∷ ds) (Some v ∷ os) a = has_more (λ n. comma_then f n) (M d v) (AreItems M ds os) (AreItems M (d ∷ ds) (Some v ∷ os)) (codes ", " ++ t d v) (behind (codes ", ") (option_texts t ds os)) E
    (has_bind (λ n. sign (codes ",")) (λ n _. f n) Any (M d v) (codes ", ") (t d v) has_comma (λ _ _. a.0)) (rest_read f M t E ds os a.1) (λ y ys p q. (p, q))

pub items_read : {X V : Type 0} (f : ℕ → Part X) (M : NamedDimension → V → X → Type 0) (t : NamedDimension → V → List ℕ) → Eats (λ n. comma_then f n) → (ds : List NamedDimension) (os : List (Option V)) (first : List ℕ) (more : List (List ℕ)) → option_texts t ds os ≡ first ∷ more → AllRead f M t ds os → HasReading (λ n. items (f n)) (AreItems M ds os) (first ++ behind (codes ", ") more)
items_read f M t E [] os first more e a = absurd (cc)
items_read f M t E (d ∷ ds) [] first more e a = absurd (cc)
items_read f M t E (d ∷ ds) (None ∷ os) first more e a = items_read f M t E ds os first more e a
items_read f M t E (d ∷ ds) (Some v ∷ os) first more e a =
    let one : t d v ≡ first = cc in let others : option_texts t ds os ≡ more = cc in
    has_as (λ n. items (f n)) (AreItems M (d ∷ ds) (Some v ∷ os)) (t d v ++ (behind (codes ", ") (option_texts t ds os) ++ [])) (first ++ behind (codes ", ") more) (rw (append-nil (behind (codes ", ") (option_texts t ds os)), one, others) refl)
    (has_bind f (λ n x. many (comma_then f n) >>= λ xs. nothing (x ∷ xs)) (M d v) (AreItems M (d ∷ ds) (Some v ∷ os)) (t d v) (behind (codes ", ") (option_texts t ds os) ++ []) a.0
    (λ x i. has_bind (λ n. many (comma_then f n)) (λ n xs. nothing (x ∷ xs)) (AreItems M ds os) (AreItems M (d ∷ ds) (Some v ∷ os)) (behind (codes ", ") (option_texts t ds os)) [] (rest_read f M t E ds os a.1)
    (λ xs j. has_nothing (x ∷ xs) (AreItems M (d ∷ ds) (Some v ∷ os)) (i, j))))

-- where nothing is said there are no items
pub no_items : {X V : Type 0} (M : NamedDimension → V → X → Type 0) (t : NamedDimension → V → List ℕ) (ds : List NamedDimension) (os : List (Option V)) → option_texts t ds os ≡ [] → AreItems M ds os []
no_items M t [] os e = tt
no_items M t (d ∷ ds) [] e = tt
no_items M t (d ∷ ds) (None ∷ os) e = no_items M t ds os e
no_items M t (d ∷ ds) (Some v ∷ os) e = absurd (cc)
