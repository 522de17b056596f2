-- `write_listing` meets its contract: the listing fits, and is written where the counts, the results and the room allow it.
use Rattle.std.proofs.Common.{◌≡◌, ◌≤◌, true, List, refl, ap, arith, rules, length, to_z-of_z, to_z, of_z, w64, ℕ}
use Rattle.std.specs.Prelude.{ℤ}
use Rattle.definitions.specs.Settle.{listing}
use Rattle.laws.specs.Search.{turned_away}
use Rattle.listing.specs.Page.{same_text}
use Rattle.listing.specs.Room.{listing_fits}
use Rattle.listing.specs.Text.{listable, listing_size, listing_slice}
use Rattle.listing.specs.Written.{is_listable, roomless, refused_results, listable_facts, text_written, nothing_written_lem}
use Rattle.listing.proofs.write_listing.Goals as goal

-- what is listable fits
fitting : (n m : ℕ) (results : List ℤ) (w : ℤ) (room : ℕ) → listable n m (length results) room ≡ true → length (listing n m results w) ≤ room
fitting n m results w room e =
    let facts = listable_facts n m (length results) room e in
    omega (arith, listing_fits n m results w facts.bids facts.pools, facts.roomy)

pub returns-then-out-lt-ROOM : goal.returns-then-out-lt-ROOM
unfolding listing_size listing_slice
returns-then-out-lt-ROOM c =
    let a = c.args in
    let w = nothing_written_lem _ (listing a.n a.m a.results.now a.welfare) a.out.now (roomless a.n a.m (length a.results.now) (length a.out.now) c.if-out-lt-ROOM.true) in
    record { size = w.0; bytes = w.1 }

pub returns-in_default : goal.returns-in_default
unfolding listing_size listing_slice
returns-in_default c =
    let a = c.args in
    let k = c.in_default in
    let w = nothing_written_lem _ (listing a.n a.m a.results.now a.welfare) a.out.now (refused_results a.n a.m (length a.results.now) (length a.out.now) (turned_away k.field-0 k.ensures.refusal)) in
    record { size = w.0; bytes = w.1 }

pub returns : goal.returns
unfolding listing_size listing_slice
returns c =
    let a = c.args in
    let k = c.in-Ok.ensures in
    let e = is_listable a.n a.m (length a.results.now) (length a.out.now) k.refusal c.if-out-lt-ROOM.false in
    let text : listing c.in-Ok.counts.n c.in-Ok.counts.m a.results.now (to_z w64 (of_z w64 a.welfare)) ≡ listing a.n a.m a.results.now a.welfare =
    rw (k.counts.0, k.counts.1) (ap (listing a.n a.m a.results.now) (to_z-of_z c.ranges.welfare)) in
    let w = text_written (listable a.n a.m (length a.results.now) (length a.out.now)) e refl (fitting a.n a.m a.results.now a.welfare (length a.out.now) e)
    (same_text text c.put_listing.ensures) in
    let bytes : c.put_listing.new.self.out.now ≡ listing_slice a.n a.m a.results.now a.welfare a.out.now = w.1 in
    record { size = w.0; bytes = search (rules, bytes) }
