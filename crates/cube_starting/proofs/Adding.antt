-- A book behind the others.
use Rattle.std.proofs.Common.{◌≡◌, ◌≢◌, ℕ, suc, ◌+◌, ◌<◌, Bool, true, false, cond, List, [], ◌∷◌, ◌++◌, length, length-append, refl, sym, ap, subst, ◌∙◌, Some, None, arith}
use Rattle.cube_model.specs.declared.policy.Policy.{Policy}
use Rattle.cube_model.specs.Cores.{Core}
use Rattle.cube_model.specs.Cubes.{Each, same}
use Rattle.cube_model.specs.Dims.{Dims}
use Rattle.cube_model.specs.Rooms.{room_of, AreApart}
use Rattle.cube_io.specs.States.{Log}
use Rattle.cube_engine.specs.Books.{Book}
use Rattle.cube_engine.specs.Kept.{IsKept}
use Rattle.cube_starting.specs.NamedBooks.{room, rooms_of, dims_of, IsKeptIn, AreNumbered, AreInOrder}
use Rattle.cube_starting.specs.declared.named.NamedBook.{NamedBook}
use Rattle.cube_starting.proofs.Placed.{flip, each_maps, kept_elsewhere}

each_more : (P : NamedBook → Type 0) (g : NamedBook) (gs : List NamedBook) → Each P gs → P g → Each P (gs ++ g ∷ [])
each_more P g [] a p = (p, tt)
each_more P g (x ∷ gs) a p = (a.0, each_more P g gs a.1 p)

numbered_more : (n : ℕ) (g : NamedBook) (gs : List NamedBook) → AreNumbered n gs → g.book.journal.log ≡ n + length gs → AreNumbered n (gs ++ g ∷ [])
numbered_more n g [] a e = (omega (arith, e), tt)
numbered_more n g (x ∷ gs) a e = (a.0, numbered_more (suc n) g gs a.1 (omega (arith, e)))

pub logs_below : (n : ℕ) (gs : List NamedBook) → AreNumbered n gs → Each (λ x. x.book.journal.log ≢ n + length gs) gs
logs_below n [] a = tt
logs_below n (x ∷ gs) a = ((λ e. absurd (let z = a.0 in omega (arith, z, e))), each_maps (λ y. y.book.journal.log ≢ suc n + length gs) (λ y. y.book.journal.log ≢ n + length (x ∷ gs)) gs (λ y f e. f (omega (arith, e))) (logs_below (suc n) gs a.1))

none_more : (n : List ℕ) (g : NamedBook) (gs : List NamedBook) → room_of n (rooms_of gs) ≡ None → same g.name n ≡ false → room_of n (rooms_of (gs ++ g ∷ [])) ≡ None
none_more n g [] h f = ap (λ b. cond b (Some (room g)) None) f
none_more n g (x ∷ gs) h f = go (same x.name n) h (λ k. none_more n g gs k f)
  where
    go : (b : Bool) → cond b (Some (room x)) (room_of n (rooms_of gs)) ≡ None → (room_of n (rooms_of gs) ≡ None → room_of n (rooms_of (gs ++ g ∷ [])) ≡ None) → cond b (Some (room x)) (room_of n (rooms_of (gs ++ g ∷ []))) ≡ None
    go true z again = absurd (cc)
    go false z again = again z

apart_more : (g : NamedBook) (gs : List NamedBook) → AreApart (rooms_of gs) → room_of g.name (rooms_of gs) ≡ None → AreApart (rooms_of (gs ++ g ∷ []))
apart_more g [] a h = (refl, tt)
apart_more g (x ∷ gs) a h = go (same x.name g.name) refl h (apart_more g gs a.1)
  where
    go : (b : Bool) → same x.name g.name ≡ b → cond b (Some (room x)) (room_of g.name (rooms_of gs)) ≡ None → (room_of g.name (rooms_of gs) ≡ None → AreApart (rooms_of (gs ++ g ∷ []))) → AreApart (rooms_of ((x ∷ gs) ++ g ∷ []))
    go true e z again = absurd (cc)
    go false e z again = (none_more x.name g gs a.0 (flip g.name x.name ∙ e), again z)

dims_more : (d : Dims) (g : NamedBook) (gs : List NamedBook) → Each (λ x. x.book.core.dims ≡ d) gs → g.book.core.dims ≡ d → dims_of (gs ++ g ∷ []) ≡ d
dims_more d g [] a e = e
dims_more d g (x ∷ gs) a e = a.0

pub order_more : (gs : List NamedBook) (name : List ℕ) (b : Book) (d : Dims) → AreInOrder gs → length gs < 16 → room_of name (rooms_of gs) ≡ None → Each (λ x. x.book.core.dims ≡ d) gs → b.core.dims ≡ d → b.waiting ≡ None → b.journal.log ≡ length gs → AreInOrder (gs ++ record { name = name; book = b } ∷ [])
order_more gs name b d order few free alike dims idle log =
    let g : NamedBook = record { name = name; book = b } in
    let is = dims_more d g gs alike dims in
    record {
      few = let l = length-append gs (g ∷ []) in omega (arith, l, few);
      apart = apart_more g gs order.apart free;
      numbered = numbered_more 0 g gs order.numbered (omega (arith, log));
      idle = each_more (λ x. x.book.waiting ≡ None) g gs order.idle idle;
      alike = each_more (λ x. x.book.core.dims ≡ dims_of (gs ++ g ∷ [])) g gs (each_maps (λ x. x.book.core.dims ≡ d) (λ x. x.book.core.dims ≡ dims_of (gs ++ g ∷ [])) gs (λ x e. e ∙ sym is) alike) (dims ∙ sym is);
    }

module _ (gs : List NamedBook) (logs logs' : ℕ → Log) (numbered : AreNumbered 0 gs) (stay : (k : ℕ) → k ≢ length gs → logs' k ≡ logs k) (kept : Each (IsKeptIn logs) gs) where
  pub kept_still : Each (IsKeptIn logs') gs
  kept_still = kept_elsewhere (length gs) logs logs' stay gs (each_maps (λ y. y.book.journal.log ≢ 0 + length gs) (λ y. y.book.journal.log ≢ length gs) gs (λ y f e. f (omega (arith, e))) (logs_below 0 gs numbered)) kept

  pub kept_more : (name : List ℕ) (b : Book) (c : Core) (p : Policy) → b.core ≡ c → b.policy ≡ p → b.journal.log ≡ length gs → IsKept c p b.history b.journal (logs' (length gs)).state → Each (IsKeptIn logs') (gs ++ record { name = name; book = b } ∷ [])
  kept_more name b c p core policy log k = each_more (IsKeptIn logs') (record { name = name; book = b }) gs kept_still
      (subst (λ (d : Core). IsKept d b.policy b.history b.journal (logs' b.journal.log).state) (sym core)
      (subst (λ (q : Policy). IsKept c q b.history b.journal (logs' b.journal.log).state) (sym policy)
      (subst (λ (n : ℕ). IsKept c p b.history b.journal (logs' n).state) (sym log) k)))
