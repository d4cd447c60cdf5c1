use Rattle.std.proofs.Common.{refl}
use Rattle.avro_container.proofs.Heads as heads
use Rattle.avro_container.proofs.StatedSizes.{still_none}
use Rattle.avro_container.specs.File.{magic}
use Rattle.avro_container.specs.FileForms.{magic_form}
use Rattle.avro_container.proofs.header.read_header.Goals as goal

pub returns-in-Err-clause-err : goal.returns-in-Err-clause-err
returns-in-Err-clause-err g c = (c.take_magic.new.allowed.limit, c.take_magic.new.allowed.size_left, rw c.fault.ensures (heads.magic_fails _ _ _ refl c.in-Err.ensures.stops))

pub take_after_magic-requires : goal.take_after_magic-requires
take_after_magic-requires g c = still_none magic_form _ _ magic refl c.in-Ok.ensures.ok

pub returns-in-Err-take_after_magic-clause-err : goal.returns-in-Err-take_after_magic-clause-err
returns-in-Err-take_after_magic-clause-err g c = (
  c.take_after_magic.new.allowed.limit,
  c.take_after_magic.new.allowed.size_left,
  rw c.fault-in-Err-take_after_magic.ensures (heads.rest_fails _ _ _ magic _ (still_none magic_form _ _ magic refl c.in-Ok.ensures.ok) c.in-Ok.ensures.ok c.in-Err-take_after_magic.ensures.stops),
)

pub returns-in-None-clause-err : goal.returns-in-None-clause-err
returns-in-None-clause-err g c =
    (c.take_after_magic.new.allowed.limit, c.take_after_magic.new.allowed.size_left, heads.no_schema _ _ _ magic _ _ _ c.in-None.is c.in-Ok.ensures.ok c.in-Ok-take_after_magic.ensures.ok)

pub returns-in-Some-clause-err : goal.returns-in-Some-clause-err
returns-in-Some-clause-err g c = (
  c.take_after_magic.new.allowed.limit,
  c.take_after_magic.new.allowed.size_left,
  heads.other_codec _ _ _ magic c.in-Some.field-0 _ _ _ c.in-Some.is (c.if-not-codec_is_null.ensures.no) c.in-Ok.ensures.ok c.in-Ok-take_after_magic.ensures.ok,
)

pub returns-clause-ok : goal.returns-clause-ok
returns-clause-ok g c =
    heads.reads _ _ _ _ _ c.take_after_magic.new.allowed.limit c.take_after_magic.new.allowed.size_left _ magic c.in-Some.field-0 _ _ _ c.in-Some.is c.if-not-codec_is_null.ensures.yes c.in-Ok.ensures.ok c.in-Ok-take_after_magic.ensures.ok
