-- A page: that a text was put behind what is written (`Wrote`), and that two texts put one behind the other are one (`then_wrote`).
use Rattle.std.specs.Prelude.{ℕ, ◌+◌, ◌≤◌, ◌≡◌, refl, List, [], ◌++◌, length, drop}
use Rattle.std.proofs.Common.{sym, ap, ◌∙◌, subst, arith, add-zero, zero-add, length-append}
use Rattle.std.proofs.lemmas.List.Edits.{sets, sets-eq}
use Rattle.definitions.specs.Plan.{over}
use Rattle.laws.specs.Write.{sets_append}
use Rattle.listing.specs.declared.page.Page.{Page}

-- there is room for the text behind what is written
abbrev pub HasRoom : Page → List ℕ → Type 0
HasRoom page text = page.size + length text ≤ length page.out.now

-- `after` is the page `before`, of the same slice; where the text has room, it is put behind what was written
pub record Wrote (before : Page) (text : List ℕ) (after : Page) : Type 0 where
  pub lent : after.out.ghost_name ≡ before.out.ghost_name
  pub as_long : length after.out.now ≡ length before.out.now
  pub behind : HasRoom before text → after.size ≡ before.size + length text
  pub stored : HasRoom before text → after.out.now ≡ sets before.out.now before.size text

-- nothing
pub nothing : (page : Page) → Wrote page [] page
nothing page = record { lent = refl; as_long = refl; behind = λ h. sym (add-zero page.size); stored = λ h. refl }

-- a text behind another
pub then_wrote : {a b c : Page} {xs ys : List ℕ} → Wrote a xs b → Wrote b ys c → Wrote a (xs ++ ys) c
then_wrote {a} {b} {c} {xs} {ys} f g =
    let first : HasRoom a (xs ++ ys) → HasRoom a xs = λ h. omega (arith, length-append xs ys) in
    let second : HasRoom a (xs ++ ys) → HasRoom b ys = λ h. omega (arith, length-append xs ys, f.as_long, f.behind (first h)) in
    record {
      lent = g.lent ∙ f.lent;
      as_long = g.as_long ∙ f.as_long;
      behind = λ h. omega (arith, length-append xs ys, f.behind (first h), g.behind (second h));
      stored = λ h.
          g.stored (second h)
          ∙ ap (λ (l : List ℕ). sets l b.size ys) (f.stored (first h))
          ∙ ap (λ (n : ℕ). sets (sets a.out.now a.size xs) n ys) (f.behind (first h))
          ∙ sym (sets_append a.out.now a.size xs ys);
    }

-- an equal text
pub same_text : {a b : Page} {xs ys : List ℕ} → xs ≡ ys → Wrote a xs b → Wrote a ys b
same_text {a} {b} e w = subst (λ (l : List ℕ). Wrote a l b) e w

-- a text at the start of the slice lies over it
pub from_start : {a b : Page} {text : List ℕ} → Wrote a text b → a.size ≡ 0 → length text ≤ length a.out.now → (b.size ≡ length text) × (b.out.now ≡ over text a.out.now)
from_start {a} {text = text} w e h =
    let room : HasRoom a text = omega arith in (
      w.behind room ∙ ap (λ (n : ℕ). n + length text) e ∙ zero-add (length text),
      w.stored room
          ∙ ap (λ (n : ℕ). sets a.out.now n text) e
          ∙ sets-eq text a.out.now 0 (omega arith)
          ∙ ap (λ (n : ℕ). text ++ drop n a.out.now) (zero-add (length text)),
    )
