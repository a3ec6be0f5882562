-- A kind as one: all that it means, and all the laws that it shows.
use Rattle.kinds.specs.declared.Kind.{Ghosts}
use Rattle.kinds.specs.Samples.{RingLaws, ConjugationLaws, WordLaws, SampleLaws, RootLaws, MagnitudeLaws}

-- the meaning of a kind of samples S: the trait's ghost members `ROOTS`, `ring`, `encoding` and `polar`
abbrev pub KindModel : Type 0 → Type 1
KindModel S = Ghosts S

-- the six laws of the trait that are records, under their names there
pub record KindLaws {S : Type 0} (k : KindModel S) : Type 0 where
  pub algebra : RingLaws k.ring
  pub conjugation : ConjugationLaws k.ring
  pub wordwise : WordLaws k.ring k.encoding
  pub encodes : SampleLaws k.encoding
  pub unity : RootLaws k.ring k.polar
  pub magnitudes : MagnitudeLaws k.ring k.encoding k.polar
