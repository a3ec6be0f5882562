-- The number, the layer, the place and the byte of each refusal of a file.
use Rattle.std.specs.Prelude.{ℕ, List, ◌++◌, codes, decimal}
use Rattle.refusals.specs.Texts.{refusal_with}
use Rattle.keys.specs.Refusals as of-key
use Rattle.calls.specs.Refusals as of-sounder
use Rattle.layout.specs.declared.refusal.FileRefusal.{FileRefusal}
use Rattle.layout.specs.declared.refusal.FileRefusal.TheVariants.{Key, Sounder, Length, Version, Kind, Buffer, Tap}

abbrev pub number : FileRefusal → ℕ
number (Key refusal byte) = of-key.number refusal
number (Sounder refusal byte) = of-sounder.number refusal
number (Length byte) = 12
number Version = 13
number Kind = 14
number (Buffer byte) = 15
number (Tap index byte) = 16

-- a file is layer 1; a refusal of the key or of the sounder keeps its own layer
abbrev pub layer : FileRefusal → ℕ
layer (Key refusal byte) = of-key.layer refusal
layer (Sounder refusal byte) = of-sounder.layer refusal
layer (Length byte) = 1
layer Version = 1
layer Kind = 1
layer (Buffer byte) = 1
layer (Tap index byte) = 1

-- where in the file, counted from 0
abbrev pub byte : FileRefusal → ℕ
byte (Key refusal b) = b
byte (Sounder refusal b) = b
byte (Length b) = b
byte Version = 0
byte Kind = 3
byte (Buffer b) = b
byte (Tap index b) = b

-- the byte, or the index of a tap; a refusal of the key or of the sounder keeps its own place
abbrev pub place : FileRefusal → ℕ
place (Key refusal b) = of-key.place refusal
place (Sounder refusal b) = of-sounder.place refusal
place (Length b) = b
place Version = 0
place Kind = 3
place (Buffer b) = b
place (Tap index b) = index

-- number, layer, place and byte, in decimal
abbrev pub refusal_text : FileRefusal → List ℕ
refusal_text r = refusal_with (number r) (layer r) (place r) ++ (codes " byte " ++ decimal (byte r))
