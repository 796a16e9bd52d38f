-- Streams of the worked examples, and what is heard of them.
use Rattle.std.specs.Prelude.{ℕ, Bool, List, [], ◌∷◌, ◌++◌, codes, map}
use Rattle.cube_model.specs.declared.reply.Fixed.{Fixed}
use Rattle.cube_http.specs.declared.targets.Wanted.{Wanted}
use Rattle.cube_http.specs.Checks.{closes}
use Rattle.cube_http.specs.Methods.{kind_of, is_head}
use Rattle.cube_http.specs.Responses.{crlf}
use Rattle.cube_http.specs.Stream.{Item, items}
use Rattle.cube_http.specs.Stream.Item.{Continue, Whole, Bad}
use Rattle.cube_http.specs.Targets.{wanted}

-- an item and its place: of a request what it asks for, whether by HEAD, whether its reply closes
pub data Told : Type 0 where
  Waits : ℕ → Told
  Asks : ℕ → Wanted → Bool → Bool → Told
  Refuses : ℕ → Fixed → Told

abbrev pub told_at : ℕ → Item → Told
told_at n Continue = Waits n
told_at n (Whole r) = Asks n (wanted r) (is_head (kind_of r.head.method)) (closes r.head)
told_at n (Bad fixed) = Refuses n fixed

abbrev pub told : List ℕ → List Told
told text = map (λ p. told_at p.ends p.item) (items text)

-- lines, each with its line end, and an empty line
abbrev pub head : List (List ℕ) → List ℕ
head [] = crlf
head (l ∷ ls) = l ++ crlf ++ head ls

abbrev pub host : List ℕ
host = codes "Host: a"

abbrev pub get_areas : List ℕ
get_areas = head (codes "GET /v1/query?q=slice%20pay%20by%20region.area HTTP/1.1" ∷ codes "Host: 127.0.0.1:8080" ∷ codes "User-Agent: curl/8.5.0" ∷ codes "Accept: */*" ∷ [])

abbrev pub post_count : List ℕ
post_count = head (codes "POST /v1/query HTTP/1.1" ∷ host ∷ codes "Content-Length: 12" ∷ []) ++ codes "q=cell+count"

abbrev pub expect_count : List ℕ
expect_count = head (codes "POST /v1/query HTTP/1.1" ∷ host ∷ codes "Expect: 100-Continue" ∷ codes "content-length: 12" ∷ [])
