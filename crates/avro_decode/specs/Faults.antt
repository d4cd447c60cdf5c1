-- The error that tells a fault of a block. Contracts of private functions alone cite this file.
use Rattle.arrow_core.specs.declared.error.Error.{Error}
use Rattle.arrow_core.specs.declared.error.Error.TheVariants.{ExternalFormat, OutOfSpec, OutOfMemory}
use Rattle.arrow_core.specs.declared.error.Reason.TheVariants as reason
use Rattle.avro_decode.specs.declared.fault.BlockFault.{BlockFault}
use Rattle.avro_decode.specs.declared.fault.BlockFault.TheVariants.{Bytes, NegativeSize, Memory}

abbrev pub fault_error : BlockFault → Error
fault_error Bytes = ExternalFormat reason.BlockBytes
fault_error NegativeSize = OutOfSpec reason.NegativeSize
fault_error Memory = OutOfMemory
