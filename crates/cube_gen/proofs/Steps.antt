-- One line, one branch or one query more.
use Rattle.std.specs.List.{flat_map}
use Rattle.std.specs.Prelude.{codes}
use Rattle.std.proofs.Common.{◌≡◌, ℕ, suc, ◌+◌, ◌-◌, ◌*◌, ◌<◌, List, [], ◌∷◌, ◌++◌, sym, ap, ap₂, ◌∙◌, arith, append_assoc}
use Rattle.std.proofs.lemmas.List.{append-nil}
use Rattle.std.proofs.lemmas.Grind.{flat_map-append}
use Rattle.cube_model.specs.Cubes.{count_from}
use Rattle.cube_model.proofs.DimsFacts.{count_from-more}
use Rattle.cube_gen.specs.Draws.{next, seed, drawn}
use Rattle.cube_gen.specs.Made.{range_text, place_text, values_text, made_fact, made_facts, made_query, draws_of, queries_from, made_queries}
use Rattle.cube_gen.specs.Tables.{branch_path, branches_head, other_tables, made_dims}

-- the text of one number more
pub one_more : (f : ℕ → List ℕ) (k : ℕ) → flat_map f (count_from 0 (k + 1)) ≡ flat_map f (count_from 0 k) ++ f k
one_more f k =
    let z : 0 + k ≡ k = omega arith in
    ap (flat_map f) (count_from-more 0 k) ∙ flat_map-append f (count_from 0 k) ((0 + k) ∷ []) ∙ ap (λ (l : List ℕ). flat_map f (count_from 0 k) ++ l) (append-nil (f (0 + k)) ∙ ap f z)

-- a text behind a head, with a piece more
behind : (head body piece more t t1 : List ℕ) → t ≡ head ++ body → t1 ≡ t ++ piece → more ≡ body ++ piece → t1 ≡ head ++ more
behind head body piece more t t1 is grown e = grown ∙ ap (λ (l : List ℕ). l ++ piece) is ∙ append_assoc head body piece ∙ ap (λ (l : List ℕ). head ++ l) (sym e)

-- three draws more
pub seed_more : (x k : ℕ) → seed (seed x (3 * k)) 3 ≡ seed x (3 * (k + 1))
seed_more x k = let e : suc (suc (suc (3 * k))) ≡ 3 * (k + 1) = omega arith in ap (seed x) e

-- a fact more
pub record IsOneFact (head : List ℕ) (x s k : ℕ) (text : List ℕ) (draws : ℕ) : Type 0 where
  pub text_is : text ≡ head ++ flat_map (made_fact x s) (count_from 0 (k + 1))
  pub draws_are : draws ≡ seed x (3 * (k + 1))

pub fact_more : (head : List ℕ) (x s k d d' : ℕ) (t t1 t2 t3 : List ℕ) → t ≡ head ++ flat_map (made_fact x s) (count_from 0 k) → d ≡ seed x (3 * k) → t1 ≡ t ++ place_text s k → t2 ≡ t1 ++ values_text d → t3 ≡ t2 ++ codes "\n" → d' ≡ seed d 3
    → IsOneFact head x s k t3 d'
fact_more head x s k d d' t t1 t2 t3 is drawn_is place values end more =
    let own_values : t2 ≡ t1 ++ values_text (seed x (3 * k)) = values ∙ ap (λ (y : ℕ). t1 ++ values_text y) drawn_is in
    let line : t3 ≡ t ++ made_fact x s k = joined t (place_text s k) (values_text (seed x (3 * k))) (codes "\n") t1 t2 t3 place own_values end in
    record {
      text_is = behind head (flat_map (made_fact x s) (count_from 0 k)) (made_fact x s k) (flat_map (made_fact x s) (count_from 0 (k + 1))) t t3 is line (one_more (made_fact x s) k);
      draws_are = more ∙ ap (λ (y : ℕ). seed y 3) drawn_is ∙ seed_more x k;
    }
  where
    joined : (a b c d t1 t2 t3 : List ℕ) → t1 ≡ a ++ b → t2 ≡ t1 ++ c → t3 ≡ t2 ++ d → t3 ≡ a ++ ((b ++ c) ++ d)
    joined a b c d t1 t2 t3 p q r = r ∙ ap (λ (l : List ℕ). l ++ d) (q ∙ ap (λ (l : List ℕ). l ++ c) p ∙ append_assoc a b c) ∙ append_assoc a (b ++ c) d

pub facts_whole : (x s n : ℕ) (t : List ℕ) → t ≡ codes "branch,month,grade,pay,hours,bonus\n" ++ flat_map (made_fact x s) (count_from 0 n) → n ≡ 20000 * s → t ≡ made_facts x s
unfolding made_facts
facts_whole x s n t is e = is ∙ ap (λ (m : ℕ). codes "branch,month,grade,pay,hours,bonus\n" ++ flat_map (made_fact x s) (count_from 0 m)) e

-- a query more
pub query_more : (s d d1 d2 n i kind : ℕ) (query : List ℕ) (queries more whole : List (List ℕ)) → i < n → queries ++ queries_from d s (n - i) ≡ whole → d1 ≡ seed d 1 → kind ≡ drawn d 1 5 → query ≡ made_query d1 s kind → d2 ≡ seed d1 (draws_of kind) → more ≡ queries ++ query ∷ []
    → more ++ queries_from d2 s (n - (i + 1)) ≡ whole
query_more s d d1 d2 n i kind query queries more whole l is first own made then grown =
    let left : n - i ≡ suc (n - (i + 1)) = omega (arith, l) in
    let own_kind : made_query d1 s kind ≡ made_query (seed d 1) s (drawn d 1 5) = ap₂ (λ (y k : ℕ). made_query y s k) first own in
    let own_draws : seed d1 (draws_of kind) ≡ seed (seed d 1) (draws_of (drawn d 1 5)) = ap₂ (λ (y k : ℕ). seed y (draws_of k)) first own in
    ap (λ (qs : List (List ℕ)). qs ++ queries_from d2 s (n - (i + 1))) grown
    ∙ append_assoc queries (query ∷ []) (queries_from d2 s (n - (i + 1)))
    ∙ ap₂ (λ (q : List ℕ) (y : ℕ). queries ++ q ∷ queries_from y s (n - (i + 1))) (made ∙ own_kind) (then ∙ own_draws)
    ∙ ap (λ (m : ℕ). queries ++ queries_from d s m) (sym left)
    ∙ is

pub queries_whole : (x y s : ℕ) (qs : List (List ℕ)) → qs ≡ queries_from y s (200 * s) → y ≡ seed x (3 * (20000 * s)) → qs ≡ made_queries x s
unfolding made_queries
queries_whole x y s qs is e = is ∙ ap (λ (z : ℕ). queries_from z s (200 * s)) e

-- a branch more
pub branch_more : (s k : ℕ) (t t1 : List ℕ) → t ≡ branches_head ++ flat_map (branch_path s) (count_from 0 k) → t1 ≡ t ++ branch_path s k → t1 ≡ branches_head ++ flat_map (branch_path s) (count_from 0 (k + 1))
branch_more s k t t1 is more = behind branches_head (flat_map (branch_path s) (count_from 0 k)) (branch_path s k) (flat_map (branch_path s) (count_from 0 (k + 1))) t t1 is more (one_more (branch_path s) k)

pub dims_whole : (s n : ℕ) (t t1 : List ℕ) → t ≡ branches_head ++ flat_map (branch_path s) (count_from 0 n) → n ≡ 40 * s → t1 ≡ t ++ other_tables → t1 ≡ made_dims s
unfolding made_dims
dims_whole s n t t1 is e more = behind branches_head (flat_map (branch_path s) (count_from 0 n)) other_tables (flat_map (branch_path s) (count_from 0 (40 * s)) ++ other_tables) t t1 is more (ap (λ (m : ℕ). flat_map (branch_path s) (count_from 0 m) ++ other_tables) (sym e))

-- one draw behind others
drawn_more : (x y k n b : ℕ) → y ≡ seed x k → b ≡ drawn y 1 n → b ≡ drawn x (suc k) n
drawn_more x y k n b e is = is ∙ ap (λ (z : ℕ). drawn z 1 n) e

seed_next : (x y z k : ℕ) → y ≡ seed x k → z ≡ seed y 1 → z ≡ seed x (suc k)
seed_next x y z k e is = is ∙ ap next e

-- a range of six draws
pub range_is : (x s n a b c d e f y z u v w : ℕ) → n ≡ 40 * s → a ≡ drawn x 1 n → y ≡ seed x 1 → b ≡ drawn y 1 n → z ≡ seed y 1 → c ≡ drawn z 1 12 → u ≡ seed z 1 → d ≡ drawn u 1 12 → v ≡ seed u 1 → e ≡ drawn v 1 6 → w ≡ seed v 1 → f ≡ drawn w 1 6
    → range_text a b c d e f ≡ made_query x s 2
range_is x s n a b c d e f y z u v w size p1 q1 p2 q2 p3 q3 p4 q4 p5 q5 p6 =
    let s2 : z ≡ seed x 2 = seed_next x y z 1 q1 q2 in
    let s3 : u ≡ seed x 3 = seed_next x z u 2 s2 q3 in
    let s4 : v ≡ seed x 4 = seed_next x u v 3 s3 q4 in
    let s5 : w ≡ seed x 5 = seed_next x v w 4 s4 q5 in
    let d1 : a ≡ drawn x 1 (40 * s) = p1 ∙ ap (drawn x 1) size in
    let d2 : b ≡ drawn x 2 (40 * s) = drawn_more x y 1 n b q1 p2 ∙ ap (drawn x 2) size in
    let d3 : c ≡ drawn x 3 12 = drawn_more x z 2 12 c s2 p3 in
    let d4 : d ≡ drawn x 4 12 = drawn_more x u 3 12 d s3 p4 in
    let d5 : e ≡ drawn x 5 6 = drawn_more x v 4 6 e s4 p5 in
    let d6 : f ≡ drawn x 6 6 = drawn_more x w 5 6 f s5 p6 in
    ap₂ (λ (i j : ℕ). range_text i j c d e f) d1 d2 ∙ ap₂ (λ (i j : ℕ). range_text (drawn x 1 (40 * s)) (drawn x 2 (40 * s)) i j e f) d3 d4
    ∙ ap₂ (λ (i j : ℕ). range_text (drawn x 1 (40 * s)) (drawn x 2 (40 * s)) (drawn x 3 12) (drawn x 4 12) i j) d5 d6
