-- What calls change of what sockets tell that have one client.
use Rattle.std.proofs.Common.{◌≡◌, ◌≢◌, ℕ, ◌==◌, Bool, true, false, List, [], ◌++◌, length, take, refl, sym, ◌∙◌, ap, arith, append-nil, if◌then◌else◌}
use Rattle.std.specs.Prelude.{Option, Some, None}
use Rattle.std.proofs.lemmas.Bool.Decides.{nat_tests}
use Rattle.std.proofs.lemmas.List.{take_all, take-append-le}
use Rattle.cube_edge.specs.Sockets.{SocketState, new_socket, shut_down, OnlyOn, Moved, Accepted}
use Rattle.trial_worlds.specs.OneClient.{is_number, nobody, of_client, one_client}

if_true : {A : Type 0} (b : Bool) (x y : A) → b ≡ true → (if b then x else y) ≡ x
if_true true x y e = refl
if_true false x y e = absurd (cc)

if_false : {A : Type 0} (b : Bool) (x y : A) → b ≡ false → (if b then x else y) ≡ y
if_false true x y e = absurd (cc)
if_false false x y e = refl

mine : (n : Option ℕ) (c : ℕ) (x : SocketState) → is_number n c ≡ true → of_client n x c ≡ x
mine n c x e = if_true (is_number n c) x nobody e

nobody_has : (n : Option ℕ) (c : ℕ) (x : SocketState) → is_number n c ≡ false → of_client n x c ≡ nobody
nobody_has n c x e = if_false (is_number n c) x nobody e

other_number : (n : Option ℕ) (c k : ℕ) → is_number n c ≡ true → k ≢ c → is_number n k ≡ false
other_number None c k e differs = refl
other_number (Some d) c k e differs = grind (arith, nat_tests)

pub client_only : (n : Option ℕ) (c waits : ℕ) (x x' : SocketState) → is_number n c ≡ true → OnlyOn c (one_client n x waits) (one_client n x' waits)
client_only n c waits x x' e = record {
  faults = refl;
  told = refl;
  time = record { clock = refl; waits = refl };
  elsewhere = λ told k differs. nobody_has n k x' (other_number n c k e differs) ∙ sym (nobody_has n k x (other_number n c k e differs));
}

-- bytes were taken from it, or it was given some
pub client_moves : (n : Option ℕ) (c waits : ℕ) (x x' : SocketState) (took gave : List ℕ) → is_number n c ≡ true → x'.taken ≡ x.taken ++ took → x'.given ≡ x.given ++ gave → x'.gone ≡ x.gone → x'.shut ≡ x.shut
    → Moved c took gave (of_client n x c).gone (one_client n x waits) (one_client n x' waits)
client_moves n c waits x x' took gave e taken given gone shut = record {
  taken = ap (λ (y : SocketState). y.taken) (mine n c x' e) ∙ taken ∙ ap (λ (y : SocketState). y.taken ++ took) (sym (mine n c x e));
  given = ap (λ (y : SocketState). y.given) (mine n c x' e) ∙ given ∙ ap (λ (y : SocketState). y.given ++ gave) (sym (mine n c x e));
  gone_is = ap (λ (y : SocketState). y.gone) (mine n c x' e) ∙ gone ∙ ap (λ (y : SocketState). y.gone) (sym (mine n c x e));
  shut_is = ap (λ (y : SocketState). y.shut) (mine n c x' e) ∙ shut ∙ ap (λ (y : SocketState). y.shut) (sym (mine n c x e));
}

-- it sends no more
pub client_leaves : (n : Option ℕ) (c waits : ℕ) (x x' : SocketState) → is_number n c ≡ true → x'.taken ≡ x.taken → x'.given ≡ x.given → x'.gone ≡ true → x'.shut ≡ x.shut
    → Moved c [] [] true (one_client n x waits) (one_client n x' waits)
client_leaves n c waits x x' e taken given gone shut = record {
  taken = ap (λ (y : SocketState). y.taken) (mine n c x' e) ∙ taken ∙ ap (λ (y : SocketState). y.taken) (sym (mine n c x e)) ∙ sym (append-nil (of_client n x c).taken);
  given = ap (λ (y : SocketState). y.given) (mine n c x' e) ∙ given ∙ ap (λ (y : SocketState). y.given) (sym (mine n c x e)) ∙ sym (append-nil (of_client n x c).given);
  gone_is = ap (λ (y : SocketState). y.gone) (mine n c x' e) ∙ gone;
  shut_is = ap (λ (y : SocketState). y.shut) (mine n c x' e) ∙ shut ∙ ap (λ (y : SocketState). y.shut) (sym (mine n c x e));
}

-- there is none with the number
pub nobody_moves : (n : Option ℕ) (c waits : ℕ) (x : SocketState) → is_number n c ≡ false → Moved c [] [] true (one_client n x waits) (one_client n x waits)
nobody_moves n c waits x e = record {
  taken = sym (append-nil (of_client n x c).taken);
  given = sym (append-nil (of_client n x c).given);
  gone_is = ap (λ (y : SocketState). y.gone) (nobody_has n c x e);
  shut_is = refl;
}

-- it is told that nothing more is written
pub client_shut : (n : Option ℕ) (c : ℕ) (x x' : SocketState) → is_number n c ≡ true → x' ≡ shut_down x → of_client n x' c ≡ shut_down (of_client n x c)
client_shut n c x x' e is = mine n c x' e ∙ is ∙ ap shut_down (sym (mine n c x e))

pub nobody_shut : (n : Option ℕ) (c : ℕ) (x : SocketState) → is_number n c ≡ false → of_client n x c ≡ shut_down (of_client n x c)
nobody_shut n c x e = nobody_has n c x e ∙ ap shut_down (sym (nobody_has n c x e))

pub client_comes : (n : Option ℕ) (c waits : ℕ) (x : SocketState) (t g : List ℕ) → n ≡ None → t ≡ [] → g ≡ [] → Accepted c (one_client n x waits) (one_client (Some c) (record { taken = t; given = g; gone = false; shut = false }) waits)
client_comes n c waits x t g none unread unsent = record {
  fresh = mine (Some c) c (record { taken = t; given = g; gone = false; shut = false }) (grind (arith, nat_tests)) ∙ as_new t g unread unsent;
  others = λ k differs. nobody_has (Some c) k _ (other_number (Some c) c k (grind (arith, nat_tests)) differs) ∙ sym (nobody_has n k x (ap (λ (m : Option ℕ). is_number m k) none));
}
  where
    as_new : (t' g' : List ℕ) → t' ≡ [] → g' ≡ [] → (record { taken = t'; given = g'; gone = false; shut = false }) ≡ new_socket
    as_new t' g' e e' = rw (e, e') refl

pub front_is : (piece front rest : List ℕ) → piece ≡ front ++ rest → take (length front) piece ≡ front
front_is piece front rest is = ap (λ (l : List ℕ). take (length front) l) is ∙ take-append-le (length front) front rest (omega arith) ∙ take_all (length front) front (omega arith)
