-- Links added one after another.
use Rattle.std.specs.List.{find}
use Rattle.std.proofs.Common.{◌≡◌, ℕ, zero, suc, ◌+◌, ◌<◌, ◌≤◌, Bool, true, false, cond, not, List, [], ◌∷◌, ◌++◌, length, take, get_or, refl, sym, ap, ap₂, ◌∙◌, arith, Option, Some, None, is_some}
use Rattle.std.proofs.lemmas.Bool.{cond-true, cond-false}
use Rattle.std.proofs.lemmas.List.{append-nil, append_assoc, take_all, take_more, take-append-le, length-take}
use Rattle.std.proofs.lemmas.List.Folds.{find-append}
use Rattle.std.specs.Option.{option_or}
use Rattle.cube_model.specs.declared.link.Link.{Link}
use Rattle.cube_model.specs.declared.link.Link.TheVariants.{Pair}
use Rattle.cube_model.specs.Cubes.{count_from}
use Rattle.cube_model.specs.Links.{suiting, is_free, follows, basis}
use Rattle.cube_model.specs.Verdicts.{fixed_by, first_stop}
use Rattle.cube_model.proofs.Bases.{basis_of_more}
use Rattle.cube_model.proofs.DimsFacts.{count_from-more}
use Rattle.cube_model.proofs.Leasts.{fails}
use Rattle.cube_model.proofs.LinkFacts.{basis_suits, free_to}
use Rattle.cube_model.proofs.Members.{tested}
use Rattle.cube_model.proofs.Walks.{same_truth}
use Rattle.cube_colour.specs.Colourings.{Colouring, IsColouring}
use Rattle.cube_colour.specs.Outcomes.{IsAdded, IsStopped, IsGrown}
use Rattle.cube_colour.proofs.History.{All-member, basis_push}
use Rattle.cube_colour.proofs.Searches.{find_same}

-- a basis leaves the same places free
basis_fixes : (n : ℕ) (ls : List Link) (guards : List ℕ) → fixed_by (suiting n (basis n ls)) guards ≡ fixed_by (suiting n ls) guards
basis_fixes n ls guards = find_same (λ i. not (is_free n (basis n ls) i)) (λ i. not (is_free n ls i)) guards (λ g k. ap not (same_truth (is_free n (basis n ls) g) (is_free n ls g) (free_to n (basis n ls) ls g (basis_suits n ls)) (free_to n ls (basis n ls) g (λ xs. ((basis_suits n ls xs).1, (basis_suits n ls xs).0)))))

-- where one more link is put behind a basis
basis_fixes_more : (n : ℕ) (ls : List Link) (l : Link) (guards : List ℕ) → fixed_by (suiting n (ls ++ l ∷ [])) guards ≡ fixed_by (suiting n (basis n ls ++ l ∷ [])) guards
basis_fixes_more n ls l guards = sym (basis_fixes n (ls ++ l ∷ []) guards) ∙ ap (λ (ks : List Link). fixed_by (suiting n ks) guards) (sym (basis_of_more n ls (l ∷ []))) ∙ basis_fixes n (basis n ls ++ l ∷ []) guards

-- one more number is looked at, and the first that is found
find_number_more : (p : ℕ → Bool) (k : ℕ) → find p (count_from 1 k) ≡ None → p (k + 1) ≡ false → find p (count_from 1 (k + 1)) ≡ None
find_number_more p k none f =
    let e : 1 + k ≡ k + 1 = omega arith in
    let counted : count_from 1 (k + 1) ≡ count_from 1 k ++ (k + 1) ∷ [] = rw e at (count_from-more 1 k) in
    ap (find p) counted ∙ find-append p (count_from 1 k) ((k + 1) ∷ []) ∙ ap (λ (o : Option ℕ). option_or o (find p ((k + 1) ∷ []))) none ∙ cond-false (p (k + 1)) (Some (k + 1)) None f

find_number : (p : ℕ → Bool) (s n k : ℕ) → k < n → find p (count_from s k) ≡ None → p (s + k) ≡ true → find p (count_from s n) ≡ Some (s + k)
find_number p s zero k lt none t = absurd (omega (arith, lt))
find_number p s (suc n) zero lt none t =
    let e : s + 0 ≡ s = omega arith in
    cond-true (p s) (Some s) (find p (count_from (suc s) n)) (ap p (sym e) ∙ t) ∙ ap Some (sym e)
find_number p s (suc n) (suc k) lt none t = tested (p s)
    (λ f. absurd (clash s (sym (cond-true (p s) (Some s) (find p (count_from (suc s) k)) f) ∙ none)))
    (λ f. let e : suc s + k ≡ s + suc k = omega arith in
    cond-false (p s) (Some s) (find p (count_from (suc s) n)) f ∙ find_number p (suc s) n k (omega (arith, lt)) (sym (cond-false (p s) (Some s) (find p (count_from (suc s) k)) f) ∙ none) (ap p e ∙ t) ∙ ap Some e)
  where
    clash : (y : ℕ) → Some y ≡ None → ⊥
    clash y e = cc

-- so many links fix a guarded place
abbrev pub stops_at : Colouring → List Link → ℕ → Bool
stops_at old links k = is_some (fixed_by (suiting old.places (old.kept ++ take k links)) old.guarded)

-- the first so many links are added
pub record Standing (old now : Colouring) (links : List Link) (k : ℕ) : Type 0 where
  pub places : now.places ≡ old.places
  pub guarded : now.guarded ≡ old.guarded
  pub kept : now.kept ≡ basis old.places (old.kept ++ take k links)
  pub front : take (length old.kept) now.kept ≡ old.kept
  pub none : find (stops_at old links) (count_from 1 k) ≡ None
  pub rules : IsColouring now

pub standing_start : (old : Colouring) (links : List Link) → IsColouring old → Standing old old links 0
standing_start old links rules = record {
  places = refl;
  guarded = refl;
  kept = sym (ap (basis old.places) (append-nil old.kept) ∙ rules.own_basis);
  front = take_all (length old.kept) old.kept (omega arith);
  none = refl;
  rules = rules;
}

pub standing_above : (old now : Colouring) (links : List Link) (k : ℕ) → Standing old now links k → length old.kept ≤ length now.kept
standing_above old now links k standing = let a : length (take (length old.kept) now.kept) ≡ length old.kept = ap length standing.front in let b = length-take (length old.kept) now.kept in omega (arith, a, b)

module _ (old now : Colouring) (links : List Link) (k : ℕ) (link : Link) (lt : k < length links) (is : link ≡ get_or links k (Pair 0 0)) (standing : Standing old now links k) where
  longer : old.kept ++ take (k + 1) links ≡ (old.kept ++ take k links) ++ link ∷ []
  longer = ap (λ (ls : List Link). old.kept ++ ls) (take_more links k (Pair 0 0) lt ∙ ap (λ (l : Link). take k links ++ l ∷ []) (sym is)) ∙ sym (append_assoc old.kept (take k links) (link ∷ []))

  -- where the guarded places stay free, the links up to here stop nowhere
  no_stop : (new : Colouring) → new.places ≡ old.places → new.guarded ≡ old.guarded → new.kept ≡ basis old.places (old.kept ++ take (k + 1) links) → IsColouring new → find (stops_at old links) (count_from 1 (k + 1)) ≡ None
  no_stop new places guarded kept rules = find_number_more (stops_at old links) k standing.none (ap is_some (sym (basis_fixes old.places (old.kept ++ take (k + 1) links) old.guarded) ∙ ap₂ (λ (n : ℕ) (gs : List ℕ). fixed_by (suiting n (basis old.places (old.kept ++ take (k + 1) links))) gs) (sym places) (sym guarded) ∙ ap (λ (ks : List Link). fixed_by (suiting new.places ks) new.guarded) (sym kept)
      ∙ fails (λ i. not (is_free new.places new.kept i)) new.guarded (λ g m. ap not (All-member (λ place. is_free new.places new.kept place ≡ true) g new.guarded rules.free m))))

  -- a basis with one more link begins as before
  front_more : (b : Bool) → follows now.places now.kept link ≡ b → take (length old.kept) (cond b now.kept (now.kept ++ link ∷ [])) ≡ old.kept
  front_more true f = standing.front
  front_more false f = take-append-le (length old.kept) now.kept (link ∷ []) (standing_above old now links k standing) ∙ standing.front

  pub standing_grown : (new : Colouring) → IsGrown now new link → Standing old new links (k + 1)
  standing_grown new h = record {
    places = places;
    guarded = guarded;
    kept = kept;
    front = ap (take (length old.kept)) (grown ∙ basis_push now.places now.kept link ∙ ap (λ (ks : List Link). cond (follows now.places ks link) ks (ks ++ link ∷ [])) standing.rules.own_basis) ∙ front_more (follows now.places now.kept link) refl;
    none = no_stop new places guarded kept h.rules;
    rules = h.rules;
  }
    where
      places : new.places ≡ old.places
      places = ap (λ (c : Colouring). c.places) h.kept ∙ standing.places

      guarded : new.guarded ≡ old.guarded
      guarded = ap (λ (c : Colouring). c.guarded) h.kept ∙ standing.guarded

      grown : new.kept ≡ basis now.places (now.kept ++ link ∷ [])
      grown = ap (λ (c : Colouring). c.kept) h.kept

      kept : new.kept ≡ basis old.places (old.kept ++ take (k + 1) links)
      kept = grown ∙ ap₂ (λ (n : ℕ) (ks : List Link). basis n (ks ++ link ∷ [])) standing.places standing.kept ∙ basis_of_more old.places (old.kept ++ take k links) (link ∷ []) ∙ ap (basis old.places) (sym longer)

  pub standing_stop : (new : Colouring) (place : ℕ) → new ≡ old → fixed_by (suiting now.places (now.kept ++ link ∷ [])) now.guarded ≡ Some place → IsStopped old new links (k + 1) place
  standing_stop new place same f = record { stays = same; stop = stop; fixed = fixed }
    where
      fixed : fixed_by (suiting old.places (old.kept ++ take (k + 1) links)) old.guarded ≡ Some place
      fixed = ap (λ (ls : List Link). fixed_by (suiting old.places ls) old.guarded) longer ∙ basis_fixes_more old.places (old.kept ++ take k links) link old.guarded
          ∙ ap₂ (λ (n : ℕ) (ks : List Link). fixed_by (suiting n (ks ++ link ∷ [])) old.guarded) (sym standing.places) (sym standing.kept) ∙ ap (fixed_by (suiting now.places (now.kept ++ link ∷ []))) (sym standing.guarded) ∙ f

      stop : first_stop old.places old.guarded old.kept links ≡ Some (k + 1)
      stop = let e : 1 + k ≡ k + 1 = omega arith in find_number (stops_at old links) 1 (length links) k lt standing.none (ap (stops_at old links) e ∙ ap is_some fixed) ∙ ap Some e

pub standing_end : (old now : Colouring) (links : List Link) (k : ℕ) → length links ≤ k → k ≤ length links → Standing old now links k → IsAdded old now links
standing_end old now links k le ge standing =
    let e : k ≡ length links = omega (arith, le, ge) in
    record {
      places = standing.places;
      guarded = standing.guarded;
      kept = standing.kept ∙ ap (λ (ls : List Link). basis old.places (old.kept ++ ls)) (take_all k links le);
      free = ap (λ (n : ℕ). find (stops_at old links) (count_from 1 n)) (sym e) ∙ standing.none;
    }

-- back at the mark all is as before
pub standing_back : (old now new : Colouring) (links : List Link) (k mark : ℕ) → Standing old now links k → mark ≡ length old.kept → new.places ≡ now.places → new.guarded ≡ now.guarded → new.kept ≡ take mark now.kept → new ≡ old
standing_back old now new links k mark standing m places guarded kept =
    let p = places ∙ standing.places in
    let g = guarded ∙ standing.guarded in
    let s = kept ∙ ap (λ (n : ℕ). take n now.kept) m ∙ standing.front in
    ap₂ (λ (n : ℕ) (gs : List ℕ). colouring n gs new.kept) p g ∙ ap (colouring old.places old.guarded) s
  where
    colouring : ℕ → List ℕ → List Link → Colouring
    colouring n gs ks = record { places = n; guarded = gs; kept = ks }
