-- A diagnosis as plain numbers.
use Rattle.refusal.specs.Numbers.{number}
use Rattle.embedding_diagnosis.specs.declared.Diagnosis.{Diagnosis}
use Rattle.embedding_diagnosis.specs.declared.Diagnosis.TheVariants.{Loads, Refused, TooDeep, TooManyLeaves, NotTogether}
use Rattle.exports_diagnosis.specs.declared.PlainDiagnosis.{PlainDiagnosis}

abbrev pub plain_of : Diagnosis → PlainDiagnosis
plain_of Loads = record { refusal = 0; lack = 0; node = 0; needed = 0; there = 0 }
plain_of (Refused r) = record { refusal = number r; lack = 0; node = 0; needed = 0; there = 0 }
plain_of (TooDeep s a b) = record { refusal = 12; lack = 1; node = s; needed = a; there = b }
plain_of (TooManyLeaves s a b) = record { refusal = 12; lack = 2; node = s; needed = a; there = b }
plain_of (NotTogether s) = record { refusal = 12; lack = 3; node = s; needed = 0; there = 0 }
