-- What is read from a file that passes the tests.
use Rattle.std.specs.Prelude.{◌≡◌, ℕ, ◌+◌, ◌*◌, ◌≤◌, List, length, drop}
use Rattle.layout.specs.declared.head.Head.{Head}
use Rattle.layout.specs.declared.parsing.Fields.{Fields}
use Rattle.layout.specs.declared.sounding.Sounding.{Sounding}
use Rattle.layout.specs.Fields.{kind_of, kernel_of, count_of, two_bytes, stages_in, plan_in, room_byte_of, room_of, record_byte, records_of}

pub record HeadRead (file : List ℕ) (h : Head) : Type 0 where
  pub kind_is : h.kind ≡ kind_of file
  pub kernel_is : h.kernel ≡ kernel_of file
  pub count_is : h.count ≡ count_of file
  pub rest_is : h.rest.now ≡ drop 6 file
  pub size_is : 6 + length h.rest.now ≡ length file

-- `bytes` begins at byte 6 of the file
pub record FieldsRead (bytes : List ℕ) (count : ℕ) (f : Fields) : Type 0 where
  pub stages_are : f.stages.items ≡ stages_in bytes count
  pub room_is : f.room ≡ two_bytes bytes (2 * count)
  pub rest_is : f.rest.now ≡ drop (2 * count + 2) bytes
  pub enough : 2 * count + 2 ≤ length bytes

pub record FileRead (file : List ℕ) (s : Sounding) : Type 0 where
  pub key_is : s.key ≡ plan_in file
  pub kind_is : s.kind ≡ kind_of file
  pub room_is : s.room ≡ room_of file
  pub byte_is : s.room_byte ≡ room_byte_of file
  pub records_are : s.records.now ≡ records_of file
  pub size_is : record_byte file + length s.records.now ≡ length file
