-- What a connection hears.
use Rattle.std.specs.Prelude.{◌≡◌, ◌≢◌, ℕ, List, [], ◌∷◌, ◌++◌, length}
use Rattle.cube_http.specs.declared.connection.Behind.{Behind}
use Rattle.cube_http.specs.declared.connection.Behind.TheVariants as behind
use Rattle.cube_http.specs.declared.connection.Conn.{Conn}
use Rattle.cube_http.specs.declared.connection.Conn.TheVariants as conn
use Rattle.cube_http.specs.declared.connection.Heard.{Heard}
use Rattle.cube_http.specs.declared.connection.Heard.TheVariants as heard
use Rattle.cube_http.specs.Head.{rest}
use Rattle.cube_http.specs.Stream.{Placed, Item, is_break, items}
use Rattle.cube_http.specs.Stream.Item.{Continue, Whole, Bad}

-- a text says what was said before, and then this at its last byte
abbrev pub Adds : List Placed → List ℕ → Item → Type 0
Adds before text item = items text ≡ before ++ record { ends = length text; item = item } ∷ []

-- A text, of which something was heard before, is heard to its last byte: what is heard there is what
-- it says there, nothing was said in between, and the connection keeps the text without the line
-- ends before the head, or the request.
abbrev pub Hears : List Placed → List ℕ → Heard → Conn → Type 0
Hears before text heard.More (conn.Head kept) = (items text ≡ before) × (kept ≡ rest is_break text)
Hears before text heard.More (conn.Body kept) = (items text ≡ before) × (kept ≡ rest is_break text)
Hears before text heard.More (conn.Done request) = ⊥
Hears before text heard.More (conn.Dead dead) = ⊥
Hears before text heard.Continue (conn.Head kept) = ⊥
Hears before text heard.Continue (conn.Body kept) = Adds before text Continue × (kept ≡ rest is_break text)
Hears before text heard.Continue (conn.Done request) = ⊥
Hears before text heard.Continue (conn.Dead dead) = ⊥
Hears before text heard.Whole (conn.Head kept) = ⊥
Hears before text heard.Whole (conn.Body kept) = ⊥
Hears before text heard.Whole (conn.Done request) = Adds before text (Whole request)
Hears before text heard.Whole (conn.Dead dead) = ⊥
Hears before text (heard.Bad fixed) (conn.Head kept) = ⊥
Hears before text (heard.Bad fixed) (conn.Body kept) = ⊥
Hears before text (heard.Bad fixed) (conn.Done request) = ⊥
Hears before text (heard.Bad fixed) (conn.Dead dead) = Adds before text (Bad fixed)

-- what comes behind the bytes of a head: something is heard, or its body follows
abbrev pub Follows : List ℕ → Behind → Type 0
Follows head (behind.Halt conn said) = Hears [] head said conn × (said ≢ heard.More)
Follows head (behind.Body kept) = (items head ≡ []) × (kept ≡ head)

-- bytes are heard behind those of a head
abbrev pub HearsOn : List ℕ → List ℕ → Heard → Conn → Type 0
HearsOn head more said conn = Hears [] (head ++ more) said conn
