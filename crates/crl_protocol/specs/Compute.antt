-- All that unfolds when a run is computed.

unfoldable pub everything : Unit {0}
unfolding
    Rattle.crl_protocol.specs.Sectioning.forgets Rattle.crl_protocol.specs.Sectioning.after_serve Rattle.crl_protocol.specs.Sectioning.after_remote Rattle.crl_protocol.specs.Sectioning.after_home_end
    Rattle.crl_protocol.specs.Calls.takes_call Rattle.crl_protocol.specs.Chosen.takes_choice Rattle.crl_protocol.specs.Gathering.gathers
    Rattle.crl_protocol.specs.Handlers.node_handles Rattle.crl_pieces.specs.Pieces.cut Rattle.crl_protocol.specs.Home.home_takes_ask
    Rattle.crl_protocol.specs.Home.home_takes_return Rattle.crl_protocol.specs.Home.home_takes_release
    Rattle.crl_protocol.specs.Home.home_starts Rattle.crl_protocol.specs.Home.home_ends_read
    Rattle.crl_protocol.specs.Home.home_ends_write Rattle.crl_protocol.specs.Lifetimes.cache_with
    Rattle.crl_protocol.specs.Lifetimes.lifetime_with_asker Rattle.crl_protocol.specs.Lifetimes.lifetime_begins_delete
    Rattle.crl_protocol.specs.Lifetimes.lifetime_takes_purged Rattle.crl_protocol.specs.Node.section_opens
    Rattle.crl_protocol.specs.Remote.remote_starts Rattle.crl_protocol.specs.Remote.remote_takes_grant
    Rattle.crl_protocol.specs.Remote.remote_takes_recall Rattle.crl_protocol.specs.Remote.remote_takes_yield
    Rattle.crl_protocol.specs.Remote.remote_ends_read Rattle.crl_protocol.specs.Remote.remote_ends_write
    Rattle.crl_protocol.specs.Remote.remote_flushes Rattle.crl_protocol.specs.Sections.section_begins
    Rattle.crl_protocol.specs.Sections.section_ends Rattle.crl_protocol.specs.Verdict.verdict
    Rattle.crl_protocol.specs.Verdict.refuses_call Rattle.crl_protocol.specs.World.step Rattle.crl_protocol.specs.World.is_enabled
everything = tt
