-- Says which files may be read for others, and in which folders (this project's profile).
use Rattle.std.specs.Fs.{IsDir, IsFile, file_type, metadata_mode}
use Rattle.std.specs.Prelude.{◌≡◌, ◌==◌, false, bit_and}
use Rattle.std.specs.declared.fs.attrs.Metadata.{Metadata}

-- a regular file whose mode lets everybody read it: octal 4
pub record MayAllRead (seen : Metadata) : Type 0 where
  pub is_file : IsFile (file_type seen)
  pub readable : (bit_and (metadata_mode seen) 4 == 0) ≡ false

-- a folder whose mode lets everybody search it: octal 1
pub record MayAllSearch (seen : Metadata) : Type 0 where
  pub is_folder : IsDir (file_type seen)
  pub searchable : (bit_and (metadata_mode seen) 1 == 0) ≡ false
