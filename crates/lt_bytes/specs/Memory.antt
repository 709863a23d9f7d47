-- Want of memory as a value.
use Rattle.lt_bytes.specs.declared.memory.NoMemory.{NoMemory}

-- the one value of `NoMemory`
abbrev pub no_memory : NoMemory
no_memory = record {}
