-- What the end of a section finds, which isn't refused.
use Rattle.std.proofs.Common.{◌≡◌, ◌∙◌, subst, ℕ, true, false, List, length, arith}
use Rattle.std.specs.declared.option.Option.TheVariants.{None, Some}
use Rattle.crl_model.specs.declared.name.Name.{Name}
use Rattle.crl_model.specs.declared.call.Call.TheVariants.{EndRead, EndWrite}
use Rattle.crl_protocol.specs.Home.{Home, is_reading}
use Rattle.crl_protocol.specs.Remote.{Remote}
use Rattle.crl_protocol.specs.Sections.{section_at, bytes_at, is_writing}
use Rattle.crl_protocol.specs.Node.{Node, home_of, is_mine}
use Rattle.crl_protocol.specs.Verdict.{verdict}
use Rattle.crl_safety.specs.Safety.{IsSafe}
use Rattle.crl_remote.specs.Copies.{IsReading, IsWriting}
use Rattle.crl_sectioning.specs.Acts.{HasVersions}
use Rattle.crl_sectioning.proofs.Heard.{heard_end_read, heard_end_write, end_reads, end_reads_here, end_writes, end_writes_here, written_size}

pub finds_versions : (name : Name) (n : Node) (h : Home) → IsSafe n → home_of n name ≡ Some h → HasVersions h
finds_versions name n h safe there = let v = (safe.home name h there).versions in omega arith

pub finds_reading : (name : Name) (n : Node) → verdict n (EndRead name) ≡ None → is_reading (section_at name n.sections) ≡ true
finds_reading name n heard = end_reads _ (heard_end_read name n heard)

pub finds_reading_here : (name : Name) (n : Node) (r : Remote) → IsSafe n → verdict n (EndRead name) ≡ None → is_mine n name ≡ false → n.remotes name ≡ Some r → IsReading r.here
finds_reading_here name n r safe heard away there = subst (λ s. IsReading s) (safe.remote name r away there).sections (end_reads_here _ (heard_end_read name n heard))

pub finds_writing : (name : Name) (bytes : List ℕ) (n : Node) → verdict n (EndWrite name bytes) ≡ None → is_writing (section_at name n.sections) ≡ true
finds_writing name bytes n heard = end_writes _ (heard_end_write name bytes n heard)

pub finds_writing_here : (name : Name) (bytes : List ℕ) (n : Node) (r : Remote) → IsSafe n → verdict n (EndWrite name bytes) ≡ None → is_mine n name ≡ false → n.remotes name ≡ Some r → IsWriting r.here
finds_writing_here name bytes n r safe heard away there = subst (λ s. IsWriting s) (safe.remote name r away there).sections (end_writes_here _ (heard_end_write name bytes n heard))

pub finds_home_size : (name : Name) (bytes : List ℕ) (n : Node) (h : Home) → IsSafe n → verdict n (EndWrite name bytes) ≡ None → length bytes ≡ length (bytes_at name n.sections) → home_of n name ≡ Some h → length bytes ≡ h.size
finds_home_size name bytes n h safe heard sized there = sized ∙ written_size h.size (n.sections.records name) (heard_end_write name bytes n heard) (λ o e. (safe.bytes name o e).home h there)

pub finds_remote_size : (name : Name) (bytes : List ℕ) (n : Node) (r : Remote) → IsSafe n → verdict n (EndWrite name bytes) ≡ None → length bytes ≡ length (bytes_at name n.sections) → is_mine n name ≡ false → n.remotes name ≡ Some r
    → length bytes ≡ r.size
finds_remote_size name bytes n r safe heard sized away there = sized ∙ written_size r.size (n.sections.records name) (heard_end_write name bytes n heard) (λ o e. (safe.bytes name o e).remote r away there)
