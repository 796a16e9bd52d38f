use Rattle.std.proofs.Common.{ℕ, List, codes, length, ◌∙◌, ap, refl}
use Rattle.std.specs.Fmt.{decimal}
use Rattle.cube_http.specs.Responses.{status_line, field, status_of, type_text, kind_of, body_of, allow_field, close_field, crlf}
use Rattle.cube_http.proofs.Heading.{six_texts}
use Rattle.cube_http.proofs.responses.write_head.Goals as goal

pub returns-clause-written : goal.returns-clause-written
returns-clause-written c = six_texts _ _ _ _ _ _ (status_line (status_of c.args.reply.now)) (field (codes "Content-Type") (type_text (kind_of c.args.reply.now))) (field (codes "Content-Length") (decimal (length (body_of c.args.reply.now))))
    (allow_field c.args.reply.now) (close_field c.args.close) crlf _ _ _ _ _ _
    c.put_status_line-at.ensures.written c.put_field-at.ensures.written c.put_field-at-2.ensures.written c.put-at.ensures.written c.put-at-2.ensures.written c.put.ensures.written
    (ap status_line c.status_of.ensures)
    (ap (λ (text : List ℕ). field (codes "Content-Type") text) (c.type_text.ensures.text ∙ ap type_text c.kind_of.ensures))
    (ap (λ (text : List ℕ). field (codes "Content-Length") text) (c.as_bytes-length.ensures.value ∙ c.format.ensures.text ∙ ap (λ (body : List ℕ). decimal (length body)) c.body_of.ensures))
    c.allow_field.ensures.text
    c.close_field.ensures.text
    refl
