-- Tests of where a name stands.
use Rattle.std.specs.Prelude.{Bool, true, false}
use Rattle.crl_model.specs.declared.stage.Stage.{Stage}
use Rattle.crl_model.specs.declared.stage.Stage.TheVariants.{Unknown, Live, Going, Gone}

-- the region was made, and its delete isn't done
abbrev pub is_there : Stage → Bool
is_there Unknown = false
is_there Live = true
is_there (Going deleter) = true
is_there Gone = false

-- its delete has begun
abbrev pub is_deleted : Stage → Bool
is_deleted Unknown = false
is_deleted Live = false
is_deleted (Going deleter) = true
is_deleted Gone = true
