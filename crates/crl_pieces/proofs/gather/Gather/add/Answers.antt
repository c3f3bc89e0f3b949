use Rattle.std.proofs.Common.{◌≡◌, ◌*◌, true, length, set, ◌∙◌, ap, sym, arith}
use Rattle.crl_pieces.specs.Pieces.{piece_size, is_missing, with_piece}
use Rattle.crl_pieces.specs.Gathering.{slots_of}
use Rattle.crl_pieces.proofs.Slots.{missing_below, place_fits, put_length, added}
use Rattle.crl_pieces.proofs.gather.Gather.add.Goals as goal

pub put-requires : goal.put-requires
put-requires c =
    let whole = c.self.inside.whole in
    let below = missing_below c.args.index c.self.inside.came.items whole (ap (λ g. is_missing c.args.index g.slots) c.self.view_is ∙ c.requires.missing) in
    let fits = place_fits (length whole) c.args.index (omega (arith, below, c.self.inside.number)) in
    let len : length c.args.part.now ≡ piece_size (length whole) c.args.index = c.requires.fits ∙ ap (λ g. piece_size g.size c.args.index) (sym c.self.view_is) in
    omega (arith, fits, len)

pub index_mut-requires : goal.index_mut-requires
index_mut-requires c =
    let below = missing_below c.args.index c.self.inside.came.items c.self.inside.whole (ap (λ g. is_missing c.args.index g.slots) c.self.view_is ∙ c.requires.missing) in
    omega (arith, below)

pub returns-clause-added : goal.returns-clause-added
returns-clause-added c =
    let i = c.args.index in
    let part = c.args.part.now in
    let came = c.self.inside.came.items in
    let whole = c.self.inside.whole in
    let below = missing_below i came whole (ap (λ g. is_missing i g.slots) c.self.view_is ∙ c.requires.missing) in
    let fits = place_fits (length whole) i (omega (arith, below, c.self.inside.number)) in
    let len : length part ≡ piece_size (length whole) i = c.requires.fits ∙ ap (λ g. piece_size g.size i) (sym c.self.view_is) in
    let size : length c.put.new.self ≡ c.args.self.now.size = ap length c.put.ensures ∙ put_length (i * 32768) part whole (omega (arith, fits, len)) ∙ ap (λ g. g.size) c.self.view_is in
    let slots : slots_of (set came i true) c.put.new.self ≡ with_piece i part c.args.self.now.slots =
    ap (slots_of (set came i true)) c.put.ensures ∙ added i came part whole below fits len ∙ ap (λ g. with_piece i part g.slots) c.self.view_is in
    λ j. record { size = size j; slots = slots j }
