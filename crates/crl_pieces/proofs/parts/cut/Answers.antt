use Rattle.std.proofs.Common.{◌≡◌, ◌-◌, ◌*◌, Some, length, take, drop, min, ◌∙◌, ap, sym, arith}
use Rattle.std.proofs.lemmas.List.{take_min, length-drop}
use Rattle.crl_pieces.proofs.Cut.{cut_at}
use Rattle.crl_pieces.proofs.Slots.{place_fits}
use Rattle.crl_pieces.proofs.parts.cut.Goals as goal

pub returns-clause-piece : goal.returns-clause-piece
returns-clause-piece c =
    let bytes = c.args.bytes.now in
    let i = c.args.index in
    let fits = place_fits (length bytes) i c.requires in
    let dropped = length-drop (i * 32768) bytes in
    let len : c.min-end.result - i * 32768 ≡ min 32768 (length (drop (i * 32768) bytes)) = omega (arith, c.min-end.ensures, dropped, fits) in
    cut_at i bytes c.requires ∙ ap (λ bs. Some bs) (sym (take_min 32768 (drop (i * 32768) bytes)) ∙ ap (λ n. take n (drop (i * 32768) bytes)) (sym len))
