-- Texts that were made and are now read.
use Rattle.std.specs.Prelude.{IsOk}
use Rattle.std.proofs.Common.{◌≡◌, ℕ, List, map, Ok, refl, sym, ap, ◌∙◌, subst}
use Rattle.cube_model.specs.declared.request.Request.{Request}
use Rattle.cube_model.specs.Dims.{Dims}
use Rattle.cube_dims.specs.DimsFile.{dims_of}
use Rattle.cube_facts.specs.FactFile.{filled, filled_of}
use Rattle.cube_policy.specs.PolicyFile.{policy_of}
use Rattle.cube_query.specs.Faults.{request_of}
use Rattle.cube_gen.specs.Made.{made_facts, made_queries}
use Rattle.cube_gen.specs.Tables.{made_dims, made_policy}
use Rattle.cube_made.specs.Laws.{IsSize}
use Rattle.cube_made.specs.Values.{dims_said}
use Rattle.cube_made.proofs.DimsRead.{dims_are_read}
use Rattle.cube_made.proofs.FactsRead.{facts_are_read}
use Rattle.cube_made.proofs.PolicyRead.{policy_is_read}
use Rattle.cube_made.proofs.QueriesRead.{queries_are_read}

module _ (number s : ℕ) (size : IsSize s) where
  pub dims_accepted : (text : List ℕ) → text ≡ made_dims s → IsOk (dims_of text)
  dims_accepted text made = subst IsOk (sym (ap dims_of made ∙ dims_are_read s size)) refl

  -- they are read as what they say
  pub dims_are : (text : List ℕ) (dims : Dims) → text ≡ made_dims s → dims_of text ≡ Ok dims → dims ≡ dims_said s
  dims_are text dims made read = let same : Ok dims ≡ Ok (dims_said s) = sym read ∙ ap dims_of made ∙ dims_are_read s size in cc

  pub facts_accepted : (dims : Dims) (text : List ℕ) → dims ≡ dims_said s → text ≡ made_facts number s → IsOk (filled_of dims text)
  facts_accepted dims text is made =
      subst (λ (d : Dims). IsOk (filled_of d text)) (sym is)
      (subst IsOk (sym (ap (filled_of (dims_said s)) made ∙ ap (filled (dims_said s)) (facts_are_read number s size).1)) refl)

  pub policy_accepted : (dims : Dims) (text : List ℕ) → dims ≡ dims_said s → text ≡ made_policy → IsOk (policy_of dims text)
  policy_accepted dims text is made =
      subst (λ (d : Dims). IsOk (policy_of d text)) (sym is)
      (subst IsOk (sym (ap (policy_of (dims_said s)) made ∙ policy_is_read s size)) refl)

  pub queries_accepted : (dims : Dims) (texts : List (List ℕ)) → dims ≡ dims_said s → texts ≡ made_queries number s → (requests : List Request) × (map (request_of dims) texts ≡ map Ok requests)
  queries_accepted dims texts is made =
      let read = queries_are_read number s size in
      (read.0, ap (λ (d : Dims). map (request_of d) texts) is ∙ ap (map (request_of (dims_said s))) made ∙ read.1)
