-- Commands as clauses see them: by their words.
use Rattle.uug_talk.specs.Words.{words}
use Rattle.uug_taylor_text.specs.CommandLines.{FieldWords, FileWords, Line, send, request, expand, execute}
use Rattle.uug_taylor_text.specs.declared.command.Command.{Command}
use Rattle.uug_taylor_text.specs.declared.command.Command.TheVariants.{Send, Request, Expand, Execute}
use Rattle.uug_taylor_text.specs.declared.command.Fields.{Fields}
use Rattle.uug_taylor_text.specs.declared.sent_file.SentFile.{SentFile}

abbrev pub shown_fields : Fields → FieldWords
shown_fields f = record { source = f.source.now; target = f.target.now; user = f.user.now; options = f.options.now }

abbrev pub shown_file : SentFile → FileWords
shown_file f = record { temp = f.temp.now; mode = f.mode; notify = f.notify.now }

abbrev pub shown : Command → Line
shown (Send fields file) = send (shown_fields fields) (shown_file file)
shown (Request fields) = request (shown_fields fields)
shown (Expand fields) = expand (shown_fields fields)
shown (Execute fields file command) = execute (shown_fields fields) (shown_file file) (words command.now)
