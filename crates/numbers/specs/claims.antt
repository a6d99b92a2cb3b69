-- What users are told: theorems over the law.
pub mod AllYes
pub mod FirstNo
pub mod CodecInputs
pub mod RoundTrip
pub mod CallsRoundTrip
pub mod Room
pub mod WrongByte
