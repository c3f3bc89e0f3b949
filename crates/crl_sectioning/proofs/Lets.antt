-- A section may start that isn't refused.
use Rattle.std.proofs.Common.{◌≡◌, subst, ℕ, ◌-◌, ◌<◌, ◌^◌, Bool, true, false}
use Rattle.std.specs.declared.option.Option.TheVariants.{None, Some}
use Rattle.crl_model.specs.declared.name.Name.{Name}
use Rattle.crl_model.specs.declared.directory.Section.{Section}
use Rattle.crl_model.specs.declared.directory.Section.TheVariants.{Closed, Reading, Writing}
use Rattle.crl_protocol.specs.Home.{Home}
use Rattle.crl_protocol.specs.Remote.{Remote}
use Rattle.crl_protocol.specs.Sections.{section_at, count_of}
use Rattle.crl_protocol.specs.Node.{Node, home_of, is_mine}
use Rattle.crl_protocol.specs.Verdict.{verdict}
use Rattle.crl_protocol.specs.World.{is_free}
use Rattle.crl_safety.specs.Safety.{IsSafe}
use Rattle.crl_home.specs.Starts as home
use Rattle.crl_remote.specs.Copies as remote
use Rattle.crl_sectioning.specs.Places.{AreKnown}
use Rattle.crl_sectioning.specs.Starts.{start_call, HomeLets, RemoteLets}
use Rattle.crl_sectioning.proofs.Heard.{heard_start, count_below, may_open}

home_reads : (limit : ℕ) (s : Section) → count_of s < limit → home.ReadsBelow limit s
home_reads limit Closed few = tt
home_reads limit (Reading count) few = few
home_reads limit Writing few = tt

remote_reads : (limit : ℕ) (s : Section) → count_of s < limit → remote.ReadsBelow limit s
remote_reads limit Closed few = tt
remote_reads limit (Reading count) few = few
remote_reads limit Writing few = tt

pub home_lets : (write : Bool) (name : Name) (n : Node) (h : Home) → IsSafe n → is_free n.activity ≡ true → verdict n (start_call write name) ≡ None → AreKnown name n.sections → n.me < n.nodes → home_of n name ≡ Some h
    → HomeLets write (n.sections.records name) n.nodes h
home_lets write name n h safe free heard known below there =
    let s = safe.home name h there in
    let may = heard_start write name n heard in
    record {
      few = s.room n.me below (s.free free);
      reads = subst (λ q. home.ReadsBelow (2 ^ 32 - 1) q) s.sections (home_reads _ (section_at name n.sections) (count_below write _ may known.1));
      versions = s.versions;
      may = may_open write h.size (n.sections.records name) may known.0 known.1 (λ o e. (safe.bytes name o e).home h there);
    }

pub remote_lets : (write : Bool) (name : Name) (n : Node) (r : Remote) → IsSafe n → verdict n (start_call write name) ≡ None → AreKnown name n.sections → is_mine n name ≡ false → n.remotes name ≡ Some r
    → RemoteLets write (n.sections.records name) r
remote_lets write name n r safe heard known away there =
    let s = safe.remote name r away there in
    let may = heard_start write name n heard in
    record {
      reads = subst (λ q. remote.ReadsBelow (2 ^ 32 - 1) q) s.sections (remote_reads _ (section_at name n.sections) (count_below write _ may known.1));
      may = may_open write r.size (n.sections.records name) may known.0 known.1 (λ o e. (safe.bytes name o e).remote r away there);
    }
