use Rattle.std.proofs.Common.{◌≡◌, ℕ, ◌<◌, ◌+◌, ◌-◌, ◌++◌, ◌∷◌, [], arith, sym, ap, ◌∙◌, append_assoc, length, take, drop}
use Rattle.crl_model.specs.declared.piece.Piece.{Piece}
use Rattle.crl_outbox.specs.Covers.{message_with}
use Rattle.std.proofs.lemmas.List.{length-drop}
use Rattle.crl_pieces.specs.Pieces.{count}
use Rattle.crl_outbox.proofs.Taking.{fewer_sheets}
use Rattle.crl_pieces.specs.declared.TheConstants.{PIECE_LEN}
use Rattle.crl_outbox.proofs.Posting.{next_piece, all_pieces, pieces_from}
use Rattle.crl_outbox.proofs.mailbox.Mailbox.post_on.Goals as goal

pub loop-index-preserved : goal.loop-index-preserved
loop-index-preserved c =
    let at = c.loop-index in let h = at.invariant in let posted = c.post_piece-rest.ensures in
    let before : at.index < c.args.number - 1 = omega arith in
    let below : at.index < c.args.number = omega (arith, before) in
    record {
      sheets = fewer_sheets c.args.size (c.args.number - 1) at.index c.unwrap-sheet.result at.others.items c.pop.new.self.items c.pop.result before c.pop.ensures.items c.unwrap-sheet.ensures h.sheets;
      rest = omega (arith, h.rest, ap length posted.rest, length-drop PIECE_LEN at.rest.now);
      posts = rw (posted.list, posted.rest, append_assoc) (ap (λ ps. at.self.list ++ ps) (sym (next_piece c.args.cover c.args.bytes.now c.args.number at.index at.rest.now below)) ∙ h.posts);
      room = omega (arith, h.room, posted.room);
      places = posted.places ∙ h.places;
    }

pub returns-clause-list : goal.returns-clause-list
returns-clause-list c =
    let at = c.loop-index in let h = at.invariant in
    let end : at.index ≡ c.args.number - 1 = omega (arith, c.loop-index-test.false) in
    let below : at.index < c.args.number = omega (arith, end, c.requires.sheets.1) in
    let none : c.args.number - (at.index + 1) ≡ 0 = omega (arith, end) in
    let number : c.args.number ≡ count (length c.args.bytes.now) = c.requires.sheets.1 ∙ ap count c.requires.sheets.0 in
    let piece : ℕ → Piece = λ k. record { message = message_with c.args.cover (take PIECE_LEN at.rest.now); pieces = c.args.number; index = k } in
    let left : pieces_from c.args.cover c.args.bytes.now c.args.number at.index (c.args.number - at.index) at.rest.now ≡ piece at.index ∷ [] =
    next_piece c.args.cover c.args.bytes.now c.args.number at.index at.rest.now below
    ∙ ap (λ k. piece at.index ∷ pieces_from c.args.cover c.args.bytes.now c.args.number (at.index + 1) k (drop PIECE_LEN at.rest.now)) none in
    c.post_piece.ensures.list ∙ ap (λ k. at.self.list ++ piece k ∷ []) (sym end) ∙ ap (λ ps. at.self.list ++ ps) (sym left)
    ∙ h.posts ∙ ap (λ ps. c.args.self.now.list ++ ps) (all_pieces c.args.cover c.args.bytes.now c.args.number number)
