-- The query language: all ways to read a text.
use Rattle.std.specs.Prelude.{ℕ, zero, suc, ◌-◌, Bool, true, false, not, ◌||◌, ◌==◌, List, [], ◌∷◌, ◌++◌, length, take, codes, if◌then◌else◌, Result, Ok, Err}
use Rattle.std.specs.List.{list_any, flat_map}
use Rattle.cube_model.specs.Names.{is_control}
use Rattle.cube_text.specs.Quoting.{is_bare, is_marked}
use Rattle.cube_query.specs.declared.query.Name.{Name}
use Rattle.cube_query.specs.declared.query.LevelName.{LevelName}
use Rattle.cube_query.specs.declared.query.PickName.{PickName}
use Rattle.cube_query.specs.declared.query.Query.{Query}
use Rattle.cube_query.specs.declared.query.QueryFault.{QueryFault}
use Rattle.cube_query.specs.declared.query.QueryFault.TheVariants as fault

-- One way to read the front of a text: a value and what stands behind it; or the text ends before the value does.
pub data Reading (A : Type 0) : Type 0 where
  Ends : Reading A
  Reads : (value : A) (rest : List ℕ) → Reading A

-- a part of the language: all ways to read the front of a text as it
abbrev pub Part : Type 0 → Type 0
Part A = List ℕ → List (Reading A)

-- a byte of some kind
abbrev pub byte : (ℕ → Bool) → Part ℕ
byte p [] = Ends ∷ []
byte p (b ∷ rest) = if p b then Reads b rest ∷ [] else []

-- nothing at all
abbrev pub nothing : {A : Type 0} → A → Part A
nothing x text = Reads x text ∷ []

abbrev pub onward : {A B : Type 0} → (A → Part B) → Reading A → List (Reading B)
onward g Ends = Ends ∷ []
onward g (Reads x rest) = g x rest

-- one part, and behind it another
infixl 10 ◌>>=◌
abbrev pub ◌>>=◌ : {A B : Type 0} → Part A → (A → Part B) → Part B
f >>= g = λ text. flat_map (onward g) (f text)

-- one part or another
abbrev pub either : {A : Type 0} → Part A → Part A → Part A
either f g text = f text ++ g text

-- some number of parts, at most so many
abbrev pub up_to : {A : Type 0} → ℕ → Part A → Part (List A)
up_to zero f text = nothing [] text
up_to (suc n) f text = either (nothing []) (f >>= λ x. up_to n f >>= λ xs. nothing (x ∷ xs)) text

-- any number of parts of at least a byte
abbrev pub many : {A : Type 0} → Part A → Part (List A)
many f text = up_to (suc (length text)) f text

abbrev pub some : {A : Type 0} → Part A → Part (List A)
some f = f >>= λ x. many f >>= λ xs. nothing (x ∷ xs)

-- this very text
abbrev pub word : List ℕ → Part (List ℕ)
word [] = nothing []
word (c ∷ cs) = byte (λ b. b == c) >>= λ _. word cs

abbrev pub is_blank : ℕ → Bool
is_blank b = b == 32 || b == 9

abbrev pub ws : Part (List ℕ)
ws = many (byte is_blank)

abbrev pub sp : Part (List ℕ)
sp = some (byte is_blank)

-- a word with blanks around it or not
abbrev pub sign : List ℕ → Part (List ℕ)
sign cs = ws >>= λ _. word cs >>= λ _. ws

-- one part or more, with commas between
abbrev pub items : {A : Type 0} → Part A → Part (List A)
items f = f >>= λ x. many (sign (codes ",") >>= λ _. f) >>= λ xs. nothing (x ∷ xs)

-- some items, or nothing
abbrev pub perhaps : {A : Type 0} → Part (List A) → Part (List A)
perhaps f = either (nothing []) f

-- a byte between quotes
abbrev pub quoted_byte : Part ℕ
quoted_byte = either (byte (λ b. not (is_control b || is_marked b))) (byte (λ b. b == 92) >>= λ _. byte is_marked)

abbrev pub quoted_name : Part (List ℕ)
quoted_name = byte (λ b. b == 34) >>= λ _. many quoted_byte >>= λ x. byte (λ b. b == 34) >>= λ _. nothing x

-- a name with its place in a text of n bytes
abbrev pub name : ℕ → Part Name
name n text = (either (some (byte is_bare)) quoted_name >>= λ x. nothing (record { text = x; at = n - length text })) text

abbrev pub level : ℕ → Part LevelName
level n = name n >>= λ d. word (codes ".") >>= λ _. name n >>= λ l. nothing (record { dimension = d; level = l })

abbrev pub fix : ℕ → Part PickName
fix n = level n >>= λ l. sign (codes "=") >>= λ _. name n >>= λ x. nothing (record { level = l; first = x; last = x })

abbrev pub span : ℕ → Part PickName
span n = level n >>= λ l. sign (codes "=") >>= λ _. name n >>= λ x. sign (codes "..") >>= λ _. name n >>= λ y. nothing (record { level = l; first = x; last = y })

abbrev pub cell : ℕ → Part Query
cell n = word (codes "cell") >>= λ _. sp >>= λ _. name n >>= λ m.
    perhaps (sp >>= λ _. items (fix n)) >>= λ ps. nothing (record { what = m; by = []; picks = ps })

abbrev pub slice : ℕ → Part Query
slice n = word (codes "slice") >>= λ _. sp >>= λ _. name n >>= λ m. sp >>= λ _. word (codes "by") >>= λ _. sp >>= λ _. items (level n) >>= λ ls.
    perhaps (sp >>= λ _. word (codes "where") >>= λ _. sp >>= λ _. items (fix n)) >>= λ ps. nothing (record { what = m; by = ls; picks = ps })

abbrev pub range : ℕ → Part Query
range n = word (codes "range") >>= λ _. sp >>= λ _. name n >>= λ m. sp >>= λ _. items (span n) >>= λ ps. nothing (record { what = m; by = []; picks = ps })

abbrev pub query : ℕ → Part Query
query n = ws >>= λ _. either (cell n) (either (slice n) (range n)) >>= λ q. ws >>= λ _. nothing q

-- the values of the readings that leave nothing behind
abbrev pub whole : {A : Type 0} → Reading A → List A
whole Ends = []
whole (Reads x []) = x ∷ []
whole (Reads x (b ∷ rest)) = []

-- the text ends before the value does, or just with it
abbrev pub is_front : {A : Type 0} → Reading A → Bool
is_front Ends = true
is_front (Reads x []) = true
is_front (Reads x (b ∷ rest)) = false

-- the queries that a text is
unfoldable pub queries : List ℕ → List Query
queries text = flat_map whole (query (length text) text)

-- the text is a prefix of some query text
unfoldable pub is_begun : List ℕ → Bool
is_begun text = list_any is_front (query (length text) text)

-- the greatest number up to n that passes, or 0
abbrev pub greatest : (ℕ → Bool) → ℕ → ℕ
greatest p zero = zero
greatest p (suc n) = if p (suc n) then suc n else greatest p n

-- how many bytes the longest prefix has that is a prefix of some query text
unfoldable pub syntax_at : List ℕ → ℕ
syntax_at text = greatest (λ n. is_begun (take n text)) (length text)

abbrev pub read_or : ℕ → List Query → Result Query QueryFault
read_or at [] = Err (fault.Syntax at)
read_or at (q ∷ qs) = Ok q

-- the query that a text is, or the place of its fault
unfoldable pub query_of : List ℕ → Result Query QueryFault
query_of text = read_or (syntax_at text) (queries text)
