-- How a text is read from its front with no step back. Each step gives a value and what is left of the text, or the
-- place at which no byte of a query comes. That this reads just what the grammar says is a law of its own.
use Rattle.std.specs.Prelude.{◌≡◌, ◌⊎◌, ℕ, zero, suc, ◌-◌, Bool, true, false, ◌==◌, nat_lt, List, [], ◌∷◌, ◌++◌, length, take, drop, codes, if◌then◌else◌, Option, Some, None, Result, Ok, Err, MatchResult}
use Rattle.std.specs.List.{prefix_len}
use Rattle.cube_text.specs.Quoting.{is_bare, closing}
use Rattle.cube_query.specs.Grammar.{is_blank}
use Rattle.cube_query.specs.declared.query.Name.{Name}
use Rattle.cube_query.specs.declared.query.LevelName.{LevelName}
use Rattle.cube_query.specs.declared.query.PickName.{PickName}
use Rattle.cube_query.specs.declared.query.Query.{Query}
use Rattle.cube_query.specs.declared.query.QueryFault.{QueryFault}
use Rattle.cube_query.specs.declared.query.QueryFault.TheVariants as fault
use Rattle.cube_query.specs.declared.cursor.Next.{Next}
use Rattle.cube_query.specs.declared.cursor.Next.TheVariants as next

-- where a reader of a text stands: the length of the whole text, and what is left of it
pub record Place : Type 0 where
  pub size : ℕ
  pub rest : List ℕ

abbrev pub Step : Type 0 → Type 0
Step A = Result (A × List ℕ) QueryFault

-- no byte of a query comes
abbrev pub stuck : {A : Type 0} → ℕ → List ℕ → Step A
stuck n rest = Err (fault.Syntax (n - length rest))

abbrev pub onto : {A B : Type 0} → Step A → (A → List ℕ → Step B) → Step B
onto (Ok y) f = f y.0 y.1
onto (Err e) f = Err e

-- the call takes this step, unless memory ran out
abbrev pub Takes : {A : Type 0} → Result A QueryFault → Place → Step A → Type 0
Takes result new step = MatchResult result (λ x. step ≡ Ok (x, new.rest)) (λ e. (e ≡ fault.NoMemory) ⊎ (step ≡ Err e))

unfoldable pub behind_blanks : List ℕ → List ℕ
behind_blanks rest = drop (prefix_len is_blank rest) rest

-- a blank comes
unfoldable pub has_blank : List ℕ → Bool
has_blank rest = nat_lt 0 (prefix_len is_blank rest)

unfoldable pub gap_in : ℕ → List ℕ → Step (Unit {0})
gap_in n rest = if has_blank rest then Ok (tt, behind_blanks rest) else stuck n (behind_blanks rest)

abbrev pub byte_in : ℕ → ℕ → List ℕ → Step (Unit {0})
byte_in n c [] = stuck n []
byte_in n c (b ∷ rest) = if b == c then Ok (tt, rest) else stuck n (b ∷ rest)

abbrev pub word_in : ℕ → List ℕ → List ℕ → Step (Unit {0})
word_in n [] rest = Ok (tt, rest)
word_in n (c ∷ cs) rest = onto (byte_in n c rest) (λ _ rest. word_in n cs rest)

unfoldable pub sign_in : ℕ → List ℕ → List ℕ → Step (Unit {0})
sign_in n cs rest = onto (word_in n cs (behind_blanks rest)) (λ _ rest. Ok (tt, behind_blanks rest))

abbrev pub closed_in : ℕ → Option (List ℕ) → List ℕ → Step (List ℕ)
closed_in n None rest = stuck n rest
closed_in n (Some x) rest = Ok (x, rest)

-- a name in quotes behind its opening quote
unfoldable pub quote_in : ℕ → List ℕ → Step (List ℕ)
quote_in n rest = closed_in n (closing false [] rest).0 (closing false [] rest).1

unfoldable pub bare_in : ℕ → List ℕ → Step (List ℕ)
bare_in n rest = if nat_lt 0 (prefix_len is_bare rest) then Ok (take (prefix_len is_bare rest) rest, drop (prefix_len is_bare rest) rest) else stuck n rest

abbrev pub text_in : ℕ → List ℕ → Step (List ℕ)
text_in n [] = bare_in n []
text_in n (b ∷ rest) = if b == 34 then quote_in n rest else bare_in n (b ∷ rest)

unfoldable pub name_in : ℕ → List ℕ → Step Name
name_in n rest = onto (text_in n rest) (λ x behind. Ok (record { text = x; at = n - length rest }, behind))

unfoldable pub level_in : ℕ → List ℕ → Step LevelName
level_in n rest = onto (name_in n rest) (λ d rest. onto (word_in n (codes ".") rest) (λ _ rest. onto (name_in n rest) (λ l rest. Ok (record { dimension = d; level = l }, rest))))

-- the last member of a pick behind its first
unfoldable pub last_in : Bool → ℕ → Name → List ℕ → Step Name
last_in is_span n x rest = if is_span then onto (sign_in n (codes "..") rest) (λ _ rest. name_in n rest) else Ok (x, rest)

unfoldable pub pick_in : Bool → ℕ → List ℕ → Step PickName
pick_in is_span n rest = onto (level_in n rest) (λ l rest. onto (sign_in n (codes "=") rest) (λ _ rest. onto (name_in n rest) (λ x rest. onto (last_in is_span n x rest) (λ y rest. Ok (record { level = l; first = x; last = y }, rest)))))

abbrev pub next_here : ℕ → Bool → List ℕ → Step Next
next_here n blank [] = Ok (next.End, [])
next_here n blank (b ∷ rest) = if b == 44 then Ok (next.Item, behind_blanks rest) else if b == 119 then (if blank then Ok (next.Where, b ∷ rest) else stuck n (b ∷ rest)) else stuck n (b ∷ rest)

-- what comes behind an item
unfoldable pub next_in : ℕ → List ℕ → Step Next
next_in n rest = next_here n (has_blank rest) (behind_blanks rest)

abbrev pub by_next : {A : Type 0} → (List A → List ℕ → Step (List A × Bool)) → List A → Next → List ℕ → Step (List A × Bool)
by_next more xs next.Item rest = more xs rest
by_next more xs next.Where rest = Ok ((xs, true), rest)
by_next more xs next.End rest = Ok ((xs, false), rest)

-- some items behind earlier ones, each of at least a byte, and whether the word `where` has to come behind them
unfoldable pub items_in : {A : Type 0} → (List ℕ → Step A) → ℕ → ℕ → List A → List ℕ → Step (List A × Bool)
items_in item n zero xs rest = stuck n rest
items_in item n (suc k) xs rest = onto (item rest) (λ x rest. onto (next_in n rest) (λ w rest. by_next (λ xs rest. items_in item n k xs rest) (xs ++ x ∷ []) w rest))

unfoldable pub levels_in : ℕ → List ℕ → Step (List LevelName × Bool)
levels_in n rest = items_in (level_in n) n (length rest) [] rest

abbrev pub to_end : {A : Type 0} → ℕ → List A × Bool → List ℕ → Step (List A)
to_end n xs rest = if xs.1 then stuck n rest else Ok (xs.0, rest)

-- picks to the end of the text
unfoldable pub picks_in : Bool → ℕ → List ℕ → Step (List PickName)
picks_in is_span n rest = onto (items_in (pick_in is_span n) n (length rest) [] rest) (to_end n)

unfoldable pub measure_in : List ℕ → ℕ → List ℕ → Step Name
measure_in cs n rest = onto (word_in n cs rest) (λ _ rest. onto (gap_in n rest) (λ _ rest. name_in n rest))

abbrev pub cell_picks_here : ℕ → Bool → List ℕ → Step (List PickName)
cell_picks_here n blank [] = Ok ([], [])
cell_picks_here n blank (b ∷ rest) = if blank then picks_in false n (b ∷ rest) else stuck n (b ∷ rest)

unfoldable pub cell_picks_in : ℕ → List ℕ → Step (List PickName)
cell_picks_in n rest = cell_picks_here n (has_blank rest) (behind_blanks rest)

unfoldable pub cell_in : ℕ → List ℕ → Step Query
cell_in n rest = onto (measure_in (codes "cell") n rest) (λ m rest. onto (cell_picks_in n rest) (λ ps rest. Ok (record { what = m; by = []; picks = ps }, rest)))

unfoldable pub where_in : Bool → ℕ → List ℕ → Step (List PickName)
where_in has_where n rest = if has_where then onto (word_in n (codes "where") rest) (λ _ rest. onto (gap_in n rest) (λ _ rest. picks_in false n rest)) else Ok ([], rest)

unfoldable pub slice_in : ℕ → List ℕ → Step Query
slice_in n rest = onto (measure_in (codes "slice") n rest) (λ m rest. onto (gap_in n rest) (λ _ rest. onto (word_in n (codes "by") rest) (λ _ rest. onto (gap_in n rest) (λ _ rest.
    onto (levels_in n rest) (λ ls rest. onto (where_in ls.1 n rest) (λ ps rest. Ok (record { what = m; by = ls.0; picks = ps }, rest)))))))

unfoldable pub range_in : ℕ → List ℕ → Step Query
range_in n rest = onto (measure_in (codes "range") n rest) (λ m rest. onto (gap_in n rest) (λ _ rest. onto (picks_in true n rest) (λ ps rest. Ok (record { what = m; by = []; picks = ps }, rest))))

abbrev pub form_here : ℕ → List ℕ → Step Query
form_here n [] = stuck n []
form_here n (b ∷ rest) = if b == 99 then cell_in n (b ∷ rest) else if b == 115 then slice_in n (b ∷ rest) else if b == 114 then range_in n (b ∷ rest) else stuck n (b ∷ rest)

unfoldable pub form_in : ℕ → List ℕ → Step Query
form_in n rest = form_here n rest

abbrev pub only_value : Step Query → Result Query QueryFault
only_value (Ok y) = Ok y.0
only_value (Err e) = Err e

-- the whole text
unfoldable pub read_in : List ℕ → Result Query QueryFault
read_in text = only_value (form_in (length text) (behind_blanks text))
