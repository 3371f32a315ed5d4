-- The data of a file as the crate of files has them, and how staging and flushing are refused.
use Rattle.std.specs.Prelude.{Option, Some, None, Result, Ok, Err, option_map}
use Rattle.file_data.specs.declared.fault.DataFault.{DataFault}
use Rattle.file_data.specs.declared.fault.DataFault.TheVariants.{BelowLength, TooLarge}
use Rattle.file_data.specs.FileRecord.{FileRecord, file_of}
use Rattle.namespace_model.specs.declared.code.Code.{Code}
use Rattle.namespace_model.specs.declared.code.Code.TheVariants.{PositionBelowLength, FileTooLarge, InvalidFlushPosition}
use Rattle.namespace_model.specs.declared.reply.Reply.{Reply}
use Rattle.namespace_model.specs.Nodes.{Content, file, bytes_in, staged_in}
use Rattle.namespace_model.specs.Replies.{refusal}

-- the data of a file
abbrev pub data_of : Content → FileRecord
data_of c = file_of (bytes_in c) (staged_in c)

-- a file with these data
abbrev pub content_of : FileRecord → Content
content_of f = file f.committed f.staged

-- a position below the length, or a file that would be too large; staging has no other fault
abbrev pub staging_code : DataFault → Option Code
staging_code BelowLength = Some PositionBelowLength
staging_code TooLarge = Some FileTooLarge
staging_code other = None

abbrev pub refused_staging : Result Unit DataFault → Option Reply
refused_staging (Ok allowed) = None
refused_staging (Err f) = option_map refusal (staging_code f)

-- each fault of a flush has one code
abbrev pub refused_flush : Result Unit DataFault → Option Reply
refused_flush (Ok allowed) = None
refused_flush (Err f) = Some (refusal InvalidFlushPosition)
