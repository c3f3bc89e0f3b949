use Rattle.std.proofs.Common.{◌≡◌, ◌∙◌, sym, ap, refl}
use Rattle.std.specs.declared.option.Option.{Option}
use Rattle.std.specs.declared.option.Option.TheVariants.{None, Some}
use Rattle.crl_model.specs.declared.piece.Piece.{Piece}
use Rattle.crl_protocol.specs.Places.{Taken, take_out}
use Rattle.crl_member.specs.Members.{addressee_of}
use Rattle.crl_node.proofs.Taking.{seen, seen_at}
use Rattle.crl_node.proofs.showing.addressee_in.Goals as goal

same : (o : Option (Taken Piece)) → seen (λ (p : Piece). p.message.addressee) 0 o ≡ addressee_of o
same None = refl
same (Some t) = refl

-- src/showing.rt:19:5
pub returns : goal.returns
returns c =
    ap (λ (p : Piece). p.message.addressee) c.piece.ensures
    ∙ sym (seen_at (λ (p : Piece). p.message.addressee) 0 c.args.place c.args.outbox.now.list c.piece.result.now c.requires)
    ∙ same (take_out c.args.place c.args.outbox.now.list)
