mod LengthLemmas
mod FloatLemmas
mod PaddingLemmas
mod ArrayLemmas
