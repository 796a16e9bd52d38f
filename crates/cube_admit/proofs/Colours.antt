-- What the links of a request do to a colouring, and the verdict on them.
use Rattle.std.specs.List.{All}
use Rattle.std.proofs.Common.{◌≡◌, ℕ, suc, ◌+◌, ◌-◌, ◌<◌, ◌≤◌, Bool, true, false, cond, List, [], ◌∷◌, ◌++◌, length, take, fold, get_or, Some, None, is_some, length-append, refl, sym, ap, ◌∙◌, arith, leb}
use Rattle.std.proofs.lemmas.Bool.{le-leb}
use Rattle.std.proofs.lemmas.Bool.Decides.{nat_tests}
use Rattle.std.proofs.lemmas.List.{get_or_read}
use Rattle.cube_model.specs.declared.link.Link.{Link}
use Rattle.cube_model.specs.declared.link.Link.TheVariants.{Pair, Single}
use Rattle.cube_model.specs.declared.verdict.Verdict.{Verdict}
use Rattle.cube_model.specs.declared.verdict.Verdict.TheVariants.{Answer, Full}
use Rattle.cube_model.specs.Links.{suiting, is_free, basis}
use Rattle.cube_model.specs.Verdicts.{fixed_by, first_stop, fixes, unless_stopped, stopped_at}
use Rattle.cube_model.proofs.Compacts.{kept_more}
use Rattle.cube_model.proofs.Leasts.{finds_least}
use Rattle.cube_colour.specs.Colourings.{Colouring, IsColouring}
use Rattle.cube_colour.specs.Outcomes.{IsAdded, IsStopped}
use Rattle.cube_admit.specs.Linking.{all_follow, IsFit, IsStop, Does, linked_as, ColouringJudged, HeldJudged}
use Rattle.cube_admit.specs.Needs.{CanEnd}
use Rattle.cube_admit.specs.declared.held.Held.{Held}
use Rattle.cube_admit.specs.declared.held.Held.TheVariants as held
use Rattle.cube_admit.specs.declared.held.Next.TheVariants as next
use Rattle.cube_admit.specs.declared.parity.Effect.TheVariants.{Follow}
use Rattle.cube_admit.proofs.Linking.{grows, stays_where, follows_stay, basis_more, follows_no_stop}
use Rattle.cube_admit.proofs.Standing.{take_front}

-- no guarded place is fixed
none_fixed : (n : ℕ) (kept : List Link) (guards : List ℕ) → All (λ i. is_free n kept i ≡ true) guards → fixed_by (suiting n kept) guards ≡ None
none_fixed n kept [] h = refl
none_fixed n kept (i ∷ guards) h = rw (h 0 i (omega arith)) (none_fixed n kept guards (λ k d l. h (suc k) d (omega (arith, l))))

-- a basis with more links is made from the basis
onward : (c : Colouring) (ls : List Link) → IsColouring c → basis c.places (c.kept ++ ls) ≡ fold (kept_more c.places) c.kept ls
onward c ls rules = basis_more c.places c.kept ls ∙ ap (λ (kept : List Link). fold (kept_more c.places) kept ls) rules.own_basis

pub stop_does : (old new : Colouring) (ls : List Link) (index place : ℕ) → IsColouring old → IsStopped old new ls index place → IsStop old new ls index place
stop_does old new ls index place rules stopped =
    let least = finds_least (λ k. is_some (fixed_by (suiting old.places (old.kept ++ take k ls)) old.guarded)) 1 (length ls) index stopped.stop in
    let below = least.below in
    record {
      news = news (all_follow old ls) refl;
      stays = stopped.stays;
      from = least.from;
      below = omega (arith, below);
      stop = stopped.stop;
      fixed = stopped.fixed;
    }
  where
    news : (b : Bool) → all_follow old ls ≡ b → b ≡ false
    news false e = refl
    news true e =
        let none = follows_no_stop old.places old.guarded old.kept ls (none_fixed old.places old.kept old.guarded rules.free) e in
        let both : Some index ≡ None = sym stopped.stop ∙ none in
        absurd (cc)

pub follow_does : (old new : Colouring) (ls : List Link) → IsColouring old → IsAdded old new ls → length new.kept ≡ length old.kept → Does old new ls Follow
follow_does old new ls rules added even =
    let grown : new.kept ≡ fold (kept_more old.places) old.kept ls = added.kept ∙ onward old ls rules in
    let follows' = stays_where old.places old.kept ls (ap length (sym grown) ∙ even) in
    let kept : new.kept ≡ old.kept = grown ∙ follows_stay old.places old.kept ls follows' in
    (follows', same kept)
  where
    same : new.kept ≡ old.kept → new ≡ old
    same kept = ap (λ (n : ℕ). record { places = n; guarded = new.guarded; kept = new.kept }) added.places ∙ ap (λ (gs : List ℕ). record { places = old.places; guarded = gs; kept = new.kept }) added.guarded ∙ ap (λ (ks : List Link). record { places = old.places; guarded = old.guarded; kept = ks }) kept

pub fit_does : (old new : Colouring) (ls : List Link) (mark : ℕ) → IsColouring old → IsAdded old new ls → mark ≡ length old.kept → (length new.kept ≡ mark → ⊥) → IsFit old new ls mark
fit_does old new ls mark rules added before uneven =
    let grown : new.kept ≡ fold (kept_more old.places) old.kept ls = added.kept ∙ onward old ls rules in
    let more = grows old.places old.kept ls in
    let split : new.kept ≡ old.kept ++ more.0 = grown ∙ more.1 in
    let long : length new.kept ≡ length (old.kept ++ more.0) = ap length split in
    record {
      news = news grown (all_follow old ls) refl;
      added = ap (λ (n : ℕ). record { places = n; guarded = new.guarded; kept = new.kept }) added.places ∙ ap (λ (gs : List ℕ). record { places = old.places; guarded = gs; kept = new.kept }) added.guarded ∙ ap (λ (ks : List Link). record { places = old.places; guarded = old.guarded; kept = ks }) added.kept;
      before = before;
      within = let whole : length new.kept ≡ length old.kept + length more.0 = long ∙ length-append old.kept more.0 in omega (arith, whole, before);
      front = ap (λ (k : ℕ). take k new.kept) before ∙ ap (take (length old.kept)) split ∙ take_front old.kept more.0;
      free = added.free;
    }
  where
    news : new.kept ≡ fold (kept_more old.places) old.kept ls → (b : Bool) → all_follow old ls ≡ b → b ≡ false
    news grown false e = refl
    news grown true e = absurd (uneven (ap length (grown ∙ follows_stay old.places old.kept ls e) ∙ sym before))

-- ---- the verdict

not_fresh : (k : ℕ) (l : Link) (i : ℕ) → fixes k l i ≡ Answer true → ⊥
not_fresh k (Pair a b) i e = cc
not_fresh k (Single a) i e = cc

pub fit_full : (old new back : Colouring) (ls : List Link) (mark many : ℕ) → IsFit old new ls mark → back.places ≡ new.places → back.guarded ≡ new.guarded → back.kept ≡ take mark new.kept → 16384 ≤ many → ColouringJudged old back many ls (Full many, None)
fit_full old new back ls mark many fit places guarded kept full =
    (sym (rw (fit.news, le-leb 16384 many full) refl), (same, λ e. cc))
  where
    same : back ≡ old
    same = ap (λ (n : ℕ). record { places = n; guarded = back.guarded; kept = back.kept }) (places ∙ ap (λ (c : Colouring). c.places) fit.added) ∙ ap (λ (gs : List ℕ). record { places = old.places; guarded = gs; kept = back.kept }) (guarded ∙ ap (λ (c : Colouring). c.guarded) fit.added) ∙ ap (λ (ks : List Link). record { places = old.places; guarded = old.guarded; kept = ks }) (kept ∙ fit.front)

pub fit_fresh : (old new : Colouring) (ls : List Link) (mark many : ℕ) → IsFit old new ls mark → many < 16384 → ColouringJudged old new many ls (Answer true, Some mark)
fit_fresh old new ls mark many fit capacity = (sym (rw (fit.news, few, fit.free) refl), (fit.added, refl, fit.before, fit.within))
  where
    few : leb 16384 many ≡ false
    few = grind (arith, nat_tests)

pub stop_full : (old new : Colouring) (ls : List Link) (index place many : ℕ) → IsStop old new ls index place → 16384 ≤ many → ColouringJudged old new many ls (Full many, None)
stop_full old new ls index place many stop full = (sym (rw (stop.news, le-leb 16384 many full) refl), (stop.stays, λ e. cc))

pub stop_fixes : (old new : Colouring) (ls : List Link) (index place many : ℕ) (link : Link) → IsStop old new ls index place → many < 16384 → link ≡ get_or ls (index - 1) link → ColouringJudged old new many ls (fixes index link place, None)
stop_fixes old new ls index place many link stop capacity at =
    let from = stop.from in
    let below = stop.below in
    let there : index - 1 < length ls = omega (arith, from, below) in
    let read : get_or ls (index - 1) (Single 0) ≡ link = sym (get_or_read ls (index - 1) link there at (Single 0)) in
    let told : stopped_at old.places old.guarded old.kept ls index ≡ fixes index link place = rw (stop.fixed, read) refl in
    (sym (rw (stop.news, few, stop.stop) told), (stop.stays, not_fresh index link place))
  where
    few : leb 16384 many ≡ false
    few = grind (arith, nat_tests)

-- a fresh answer comes only where there is space
pub fresh_room : (c : Colouring) (many : ℕ) (ls : List Link) → Answer true ≡ linked_as c many ls → many < 16384
fresh_room c many ls e = go (all_follow c ls) (leb 16384 many) refl e
  where
    go : (a b : Bool) → leb 16384 many ≡ b → Answer true ≡ cond a (Answer false) (cond b (Full many) (unless_stopped (stopped_at c.places c.guarded c.kept ls) (first_stop c.places c.guarded c.kept ls))) → many < 16384
    go true b t e = absurd (cc)
    go false true t e = absurd (cc)
    go false false t e = grind (arith, nat_tests)

-- what is judged of what is kept, taken apart
pub room_of : (old new : Held) (many : ℕ) (ls : List Link) (v : Verdict) (mark : ℕ) → HeldJudged old new many ls (v, Some mark) → (many < 16384) × CanEnd (next.Mark mark) new
room_of held.Open new many ls v mark h = absurd h
room_of (held.Source s) new many ls v mark h = absurd h
room_of (held.Links c) held.Open many ls v mark h = absurd h
room_of (held.Links c) (held.Source s) many ls v mark h = absurd h
room_of (held.Links c) (held.Links d) many ls v mark h = (fresh_room c many ls (sym h.1.1 ∙ h.0), h.1.3)
