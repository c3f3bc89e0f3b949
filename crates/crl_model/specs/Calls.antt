-- Which calls a refusal may meet, and the call of a part.
use Rattle.std.specs.Prelude.{Bool, true, false}
use Rattle.crl_model.specs.declared.call.CallKind.{CallKind}
use Rattle.crl_model.specs.declared.call.CallKind.TheVariants.{Delete, Map, Unmap, Read, EndRead, Write, Put, Add, EndWrite, Flush, Barrier, Send, Receive, Sum, Min, Max}
use Rattle.crl_model.specs.declared.collective.Part.{Part}
use Rattle.crl_model.specs.declared.collective.Part.TheVariants as part

-- a map or a delete: it may name a region that isn't there
abbrev pub asks_the_home : CallKind → Bool
asks_the_home Map = true
asks_the_home Delete = true
asks_the_home _ = false

-- a call about a region that the node has to have mapped
abbrev pub needs_map : CallKind → Bool
needs_map Unmap = true
needs_map Read = true
needs_map EndRead = true
needs_map Write = true
needs_map Put = true
needs_map Add = true
needs_map EndWrite = true
needs_map Flush = true
needs_map _ = false

-- a call inside a write section
abbrev pub needs_write : CallKind → Bool
needs_write Put = true
needs_write Add = true
needs_write EndWrite = true
needs_write _ = false

-- a call outside all sections
abbrev pub needs_close : CallKind → Bool
needs_close Unmap = true
needs_close Flush = true
needs_close _ = false

-- a call that changes some of the bytes
abbrev pub has_range : CallKind → Bool
has_range Put = true
has_range Add = true
has_range _ = false

-- the call that brings the part
abbrev pub kind_of : Part → CallKind
kind_of part.Barrier = Barrier
kind_of (part.Send bytes) = Send
kind_of part.Receive = Receive
kind_of (part.Sum v) = Sum
kind_of (part.Min v) = Min
kind_of (part.Max v) = Max
