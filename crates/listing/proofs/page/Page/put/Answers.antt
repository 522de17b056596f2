-- `put` meets its contract: where the text has room, it is copied behind what is written.
use Rattle.std.proofs.Common.{ℕ, ◌+◌, ◌-◌, ◌≤◌, ◌≡◌, refl, sym, ap, ◌∙◌, List, length, arith}
use Rattle.std.proofs.lemmas.List.Edits.{sets, sets-eq}
use Rattle.std.proofs.lemmas.Slice.{put_mid-paste}
use Rattle.std.proofs.Math.Seq.{length-sets}
use borrow.Rule.Slice.PartMut.{put_mid}
use Rattle.laws.specs.Write.{all_written}
use Rattle.listing.proofs.page.Page.put.Goals as goal

-- a copy of the text over the part of a slice from an index on
copied : (slice text part : List ℕ) (at : ℕ) → part ≡ text → at + length text ≤ length slice → put_mid at (at + length text - at) slice part ≡ sets slice at text
copied slice text part at e h =
    all_written _ _ at text (length text) (put_mid-paste at (at + length text - at) slice part text (length text) e (omega arith) refl) refl
    ∙ sym (sets-eq text slice at h)

pub returns-then-text-self : goal.returns-then-text-self
returns-then-text-self c =
    let page = c.args.self.now in
    let text = c.args.text.now in
    let stored = copied page.out.now text _ page.size c.copy_from_slice.ensures.after (omega arith) in
    record {
      lent = refl;
      as_long = ap length stored ∙ length-sets page.out.now page.size text;
      behind = λ h. refl;
      stored = λ h. stored;
    }
