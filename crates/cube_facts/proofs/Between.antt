-- A reader that stands between two records, and the read of the one behind.
use Rattle.std.proofs.Common.{◌≡◌, ◌⊎◌, ℕ, List, [], ◌∷◌, Bool, true, false, Option, Some, None, is_some, is_none, not, ◌&&◌, ◌||◌, IsSome, inl, inr, refl, sym, ◌∙◌}
use Rattle.std.proofs.lemmas.Bool.{false≢true}
use Rattle.csv.specs.Reading.{ReadRecord, Ready, default_config, records, source_of}
use Rattle.csv.specs.declared.reader.Headers.{Headers}
use Rattle.csv.specs.declared.reader.Reader.{Reader}
use Rattle.csv.specs.declared.parser.State.TheVariants as st
use Rattle.cube_facts.specs.Unread.{unread, is_ready, StandsBetween}
use Rattle.cube_facts.proofs.Whole.{left-more, left-end, records-left}

-- where the next read is of one record
pub ready : {R : Type 0} (r : Reader R) → is_ready r ≡ true → Ready r
ready r h = go r.first r.has_headers r.headers h
  where
    go : (first has : Bool) (headers : Option Headers) → (first || (not has && is_none headers)) ≡ true → (first ≡ true) ⊎ ((has ≡ true) × IsSome headers) ⊎ ((has ≡ false) × (headers ≡ None))
    go true has headers h = inl refl
    go false true headers h = absurd (false≢true h)
    go false false None h = inr (inr (refl, refl))
    go false false (Some x) h = absurd (false≢true h)

known : {X : Type 0} (o : Option X) → is_some o ≡ true → (x : X) × (o ≡ Some x)
known None h = absurd (false≢true h)
known (Some x) h = (x, refl)

module _ {R : Type 0} (rem : R → Option (List ℕ)) (a b : Reader R) (f : List (List ℕ)) (stands : StandsBetween rem a) where
  -- a read that found a record took the first of those that were left
  pub took : ReadRecord rem a b true f → b.first ≡ true → StandsBetween rem b × (unread rem a ≡ f ∷ unread rem b)
  took read first =
      let (y, source) = known (source_of rem a) stands.4 in
      let (z, at_z, between, step) = left-more rem a b f y stands.2 source stands.3 read in
      ((read.3 ∙ stands.0, rw first refl, read.2 ∙ stands.2, between, rw at_z refl), rw (source, at_z) step)

  -- and one that found none came to their end
  pub ended : ReadRecord rem a b false f → unread rem a ≡ []
  ended read =
      let (y, source) = known (source_of rem a) stands.4 in
      rw source (left-end rem a b f y stands.2 source read)

-- at the start of a text all its records are left
pub fresh : {R : Type 0} (rem : R → Option (List ℕ)) (r : Reader R) (text : List ℕ) → r.state ≡ st.StartRecord → source_of rem r ≡ Some text → unread rem r ≡ records default_config text
fresh rem r text state source = rw (state, source) (sym (records-left text))
