-- The events of a script can be played: each piece has a byte and fits the buffer.
use Rattle.std.proofs.Common.{◌≡◌, ◌<◌, ◌≤◌, ℕ, ◌+◌, ◌*◌, Bool, true, false, ◌||◌, ◌==◌, nat_lt, List, [], ◌∷◌, ◌++◌, length, Option, Some, None, Result, Ok, Err, unwrap_or, if◌then◌else◌, refl, ap, subst, arith}
use Rattle.std.specs.Option.{option_map}
use Rattle.std.specs.Result.{result_ok, result_unwrap_or}
use Rattle.std.specs.Str.{bytes_eq}
use Rattle.std.specs.Prelude.{codes}
use Rattle.std.proofs.lemmas.Bool.Decides.{nat_tests}
use Rattle.hex.specs.Hex.{decode_of}
use Rattle.hex.specs.declared.error.FromHexError.{FromHexError}
use Rattle.hex.proofs.HexLemmas.{decode_of-ok}
use Rattle.cube_model.specs.Cubes.{Each}
use Rattle.cube_io.proofs.Trails.{each_append}
use Rattle.cube_io.specs.Wires.{Arrival}
use Rattle.cube_io.specs.Wires.Arrival.{Opened, Closed, End}
use Rattle.cube_script.specs.Capacity.{IsPlayable}
use Rattle.cube_script.specs.Scripts.{connection_of, bytes_of, came_of, event_of, words, lines, with_event, events_of, script_of}

-- ---- a line

decoded : (t : Bool) (r : Result (List ℕ) FromHexError) (bytes : List ℕ) → (if t then None else result_ok r) ≡ Some bytes → (t ≡ false) × (r ≡ Ok bytes)
decoded true r bytes h = absurd (cc)
decoded false (Ok x) bytes h = (refl, ap (λ (o : Option (List ℕ)). Ok (unwrap_or o [])) h)
decoded false (Err e) bytes h = absurd (cc)

neither : (a b : Bool) → (a || b) ≡ false → (a ≡ false) × (b ≡ false)
neither true b h = absurd (cc)
neither false b h = (refl, h)

some_digits : (n m : ℕ) → (n == 0) ≡ false → n ≡ 2 * m → 0 < m
some_digits n m h e = grind (arith, nat_tests)

few_digits : (n m : ℕ) → nat_lt 131072 n ≡ false → n ≡ 2 * m → m ≤ 65536
few_digits n m h e = grind (arith, nat_tests)

bytes_fit : (word bytes : List ℕ) → bytes_of word ≡ Some bytes → (0 < length bytes) × (length bytes ≤ 65536)
bytes_fit word bytes h =
    let e = decoded ((length word == 0) || nat_lt 131072 (length word)) (decode_of word) bytes h in
    let size = (decode_of-ok word bytes e.1).2 in
    let tests = neither (length word == 0) (nat_lt 131072 (length word)) e.0 in
    (some_digits (length word) (length bytes) tests.0 size, few_digits (length word) (length bytes) tests.1 size)

short_playable : (t u : Bool) (c : Option ℕ) (e : Arrival) → (if t then option_map Opened c else if u then option_map Closed c else None) ≡ Some e → IsPlayable e
short_playable true u (Some c) e h = subst IsPlayable (ap (λ (o : Option Arrival). unwrap_or o End) h) tt
short_playable true u None e h = absurd (cc)
short_playable false true (Some c) e h = subst IsPlayable (ap (λ (o : Option Arrival). unwrap_or o End) h) tt
short_playable false true None e h = absurd (cc)
short_playable false false c e h = absurd (cc)

long_playable : (t : Bool) (c : Option ℕ) (b : Option (List ℕ)) (e : Arrival) → ((bytes : List ℕ) → b ≡ Some bytes → (0 < length bytes) × (length bytes ≤ 65536)) → (if t then came_of c b else None) ≡ Some e → IsPlayable e
long_playable true (Some c) (Some bytes) e fit h = subst IsPlayable (ap (λ (o : Option Arrival). unwrap_or o End) h) (fit bytes refl)
long_playable true (Some c) None e fit h = absurd (cc)
long_playable true None b e fit h = absurd (cc)
long_playable false c b e fit h = absurd (cc)

event_playable : (ws : List (List ℕ)) (e : Arrival) → event_of ws ≡ Some e → IsPlayable e
event_playable [] e h = absurd (cc)
event_playable (kind ∷ []) e h = absurd (cc)
event_playable (kind ∷ c ∷ []) e h = short_playable (bytes_eq kind (codes "open")) (bytes_eq kind (codes "close")) (connection_of c) e h
event_playable (kind ∷ c ∷ digits ∷ []) e h = long_playable (bytes_eq kind (codes "data")) (connection_of c) (bytes_of digits) e (bytes_fit digits) h
event_playable (kind ∷ c ∷ digits ∷ word ∷ ws) e h = absurd (cc)

-- ---- the lines

with_playable : (n : ℕ) (o : Option Arrival) (r : Result (List Arrival) ℕ) (es : List Arrival) → ((e : Arrival) → o ≡ Some e → IsPlayable e) → ((more : List Arrival) → r ≡ Ok more → Each IsPlayable more) → with_event n o r ≡ Ok es → Each IsPlayable es
with_playable n None r es f g h = absurd (cc)
with_playable n (Some e) (Ok more) es f g h = subst (Each IsPlayable) (ap (λ (x : Result (List Arrival) ℕ). result_unwrap_or x []) h) (f e refl, g more refl)
with_playable n (Some e) (Err m) es f g h = absurd (cc)

last_playable : (t : Bool) (n : ℕ) (es : List Arrival) → (if t then Ok [] else Err n) ≡ Ok es → Each IsPlayable es
last_playable true n es h = subst (Each IsPlayable) (ap (λ (x : Result (List Arrival) ℕ). result_unwrap_or x []) h) tt
last_playable false n es h = absurd (cc)

events_playable : (n : ℕ) (ls : List (List ℕ)) (es : List Arrival) → events_of n ls ≡ Ok es → Each IsPlayable es
events_playable n [] es h = last_playable true n es h
events_playable n (last ∷ []) es h = last_playable (length last == 0) n es h
events_playable n (line ∷ next ∷ more) es h = with_playable n (event_of (words line)) (events_of (n + 1) (next ∷ more)) es (event_playable (words line)) (events_playable (n + 1) (next ∷ more)) h

-- all that a script plays, the end among it
pub script_playable : (text : List ℕ) (es : List Arrival) → script_of text ≡ Ok es → Each IsPlayable (es ++ End ∷ [])
script_playable text es h = each_append IsPlayable es (End ∷ []) (events_playable 1 (lines text) es h) (tt, tt)
