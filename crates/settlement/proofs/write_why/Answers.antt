-- `write_why` meets its contract: the text is one word, or the number and the place of the refusal that the reason states.
use Rattle.std.proofs.Common.{◌∙◌, refl}
use Rattle.definitions.specs.Answers.{stated}
use Rattle.definitions.specs.Settle.{unreadable, unreadable_text}
use Rattle.listing.specs.Text.{unreadable_size, unreadable_slice}
use Rattle.settlement.proofs.Texts.{size_of, slice_of, refusal_size, refusal_slice}
use Rattle.settlement.proofs.write_why.Goals as goal

pub returns-in-Unreadable : goal.returns-in-Unreadable
unfolding unreadable_size unreadable_slice
returns-in-Unreadable c =
    let w = c.write_unreadable.ensures in
    let out = c.args.out.now in
    rw c.in-Unreadable.is
    (record {
      size = λ numbers cells. w.size ∙ size_of unreadable cells unreadable_text out refl;
      bytes = λ numbers cells. w.bytes ∙ slice_of unreadable cells unreadable_text out refl;
    })

pub returns-in-Refused : goal.returns-in-Refused
returns-in-Refused c =
    let w = c.write_refused.ensures in
    let r = stated c.in-Refused.reason in
    let out = c.args.out.now in
    rw c.in-Refused.is
    (record {
      size = λ numbers cells. w.size ∙ refusal_size r cells _ _ out c.number.ensures c.place.ensures;
      bytes = λ numbers cells. w.bytes ∙ refusal_slice r cells _ _ out c.number.ensures c.place.ensures;
    })
